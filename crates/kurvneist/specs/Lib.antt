pub mod Spec
