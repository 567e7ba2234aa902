pub mod Trie
pub mod Promises
