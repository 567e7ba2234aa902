-- The numbers in front: what the reader answers, by what each field answers. Assumes nothing.
use mathlib.Core.List.{List}
use mathlib.Core.Path.{◌≡◌, refl, sym, ap, ◌∙◌}
use Prim.Native.Nat.{ℕ, suc, ◌+◌, ◌^◌, ◌≤◌, ◌<◌}
use native.Mathlib.Numerals.{add-one}
use native.Mathlib.Omega.{arith}
use Rattle.std.specs.Prelude.{Some, None}
use Rattle.paper.specs.Result.{refused, accepted, Read, Reader, return, ◌>>=◌}
use Rattle.paper.specs.Bits.{bits_of, field}
use Rattle.paper.proofs.Bits.{field_bounded, all_drop}
use Rattle.paper.proofs.Bytes.{bits_below}
use Rattle.paper.proofs.Readers.{return_accepted, bind_accepted, bind_return}
use Rattle.bits.proofs.Reading.{Got}
use Rattle.side.specs.Promises.{bits_at}
use Rattle.point_reader.specs.Readers.{read_counts, Headed, read_head}
use Rattle.point_reader.specs.Loading.{Lacks}
use Rattle.point_reader.specs.Promises.{Any, CountsTaken, HeadTaken}
use Rattle.point_reader.specs.declared.Counts.{Counts}
use Rattle.point_reader.proofs.Fields.{Told}
use Rattle.point_reader.proofs.Lacking.{refused_lacks, first_lacks, first_none, second_lacks}

-- WHAT IS COUNTED

abbrev counted : ℕ → ℕ → ℕ → ℕ → Counts
counted v n g k = record { rewrites = v; entries = n; granted = g; kept = k }

abbrev with_kept : ℕ → ℕ → ℕ → Reader Counts
with_kept v n g = field 64 >>= (λ k. return (counted v n g k))

abbrev with_granted : ℕ → ℕ → Reader Counts
with_granted v n = field 64 >>= with_kept v n

abbrev with_entries : ℕ → Reader Counts
with_entries v = field 64 >>= with_granted v

counts_are : (xs : List ℕ) → read_counts xs ≡ (field 64 >>= with_entries) xs
unfolding read_counts
counts_are xs = refl

-- the rewrites are those that were read first
counts_rewrites : (v : ℕ) (xs : List ℕ) (r : Read Counts) → with_entries v xs ≡ accepted r → r.value.rewrites ≡ v
counts_rewrites v xs r e =
    let (n, _, f) = bind_accepted (field 64) (with_granted v) xs r e in
    let (g, _, h) = bind_accepted (field 64) (with_kept v n.value) n.left r f in
    let (k, _, i) = bind_accepted (field 64) (λ k. return (counted v n.value g.value k)) g.left r h in
    return_accepted (counted v n.value g.value k.value) k.left r (λ z. z.value.rewrites ≡ v) i refl

abbrev few : Counts → Type 0
few c = c.rewrites < 2 ^ 32

module _ {bytes : List ℕ} {at : ℕ} where
  counts_lack : Lacks few ((field 64 >>= with_entries) (bits_at bytes at)) → CountsTaken bytes at None
  counts_lack l = record { are = λ r e. l r (sym (counts_are (bits_at bytes at)) ∙ e) }

  pub rewrites_out : field 64 (bits_at bytes at) ≡ refused 1 → CountsTaken bytes at None
  rewrites_out e = counts_lack (first_none (field 64) with_entries (bits_at bytes at) few (refused_lacks Any e))

  module _ {v p : ℕ} (e : Told bytes at 64 v p) where
    behind_rewrites : Lacks few (with_entries v (bits_at bytes p)) → CountsTaken bytes at None
    behind_rewrites l = counts_lack (second_lacks (field 64) with_entries (bits_at bytes at) few v (bits_at bytes p) e.is l)

    pub rewrites_large : 2 ^ 32 ≤ v → CountsTaken bytes at None
    rewrites_large l = behind_rewrites (λ r f s. let z = counts_rewrites v (bits_at bytes p) r f in omega (arith, z, s, l))

    pub entries_out : field 64 (bits_at bytes p) ≡ refused 1 → CountsTaken bytes at None
    entries_out f = behind_rewrites (first_none (field 64) (with_granted v) (bits_at bytes p) few (refused_lacks Any f))

    module _ {n q : ℕ} (f : Told bytes p 64 n q) where
      behind_entries : Lacks few (with_granted v n (bits_at bytes q)) → CountsTaken bytes at None
      behind_entries l = behind_rewrites (second_lacks (field 64) (with_granted v) (bits_at bytes p) few n (bits_at bytes q) f.is l)

      pub granted_out : field 64 (bits_at bytes q) ≡ refused 1 → CountsTaken bytes at None
      granted_out g = behind_entries (first_none (field 64) (with_kept v n) (bits_at bytes q) few (refused_lacks Any g))

      module _ {g i : ℕ} (h : Told bytes q 64 g i) where
        pub kept_out : field 64 (bits_at bytes i) ≡ refused 1 → CountsTaken bytes at None
        kept_out k =
            behind_entries (second_lacks (field 64) (with_kept v n) (bits_at bytes q) few g (bits_at bytes i) h.is
            (first_none (field 64) (λ k. return (counted v n g k)) (bits_at bytes i) few (refused_lacks Any k)))

        pub counts_read : {k next w : ℕ} → Told bytes i 64 k next → w ≡ v → CountsTaken bytes at (Some (record { value = counted w n g k; next = next }))
        counts_read {k} {next} j z = record {
          are = counts_are (bits_at bytes at)
              ∙ bind_return (field 64) with_entries (bits_at bytes at) (bits_at bytes p) v e.is
              ∙ bind_return (field 64) (with_granted v) (bits_at bytes p) (bits_at bytes q) n f.is
              ∙ bind_return (field 64) (with_kept v n) (bits_at bytes q) (bits_at bytes i) g h.is
              ∙ bind_return (field 64) (λ k. return (counted v n g k)) (bits_at bytes i) (bits_at bytes next) k j.is
              ∙ ap (λ (x : ℕ). return (counted x n g k) (bits_at bytes next)) (sym z);
        }

-- THE NUMBERS

abbrev with_all : ℕ → ℕ → Counts → ℕ → Headed
with_all n b c m = record {
  numbers = record { units = suc n; budget = b; rewrites = c.rewrites; entries = c.entries; granted = c.granted; kept = c.kept };
  symbols = suc m;
}

abbrev with_symbols : ℕ → ℕ → Counts → Reader Headed
with_symbols n b c = field 10 >>= (λ m. return (with_all n b c m))

abbrev with_counts : ℕ → ℕ → Reader Headed
with_counts n b = read_counts >>= with_symbols n b

abbrev with_budget : ℕ → Reader Headed
with_budget n = field 32 >>= with_counts n

head_is : (xs : List ℕ) → read_head xs ≡ (field 3 >>= with_budget) xs
unfolding read_head
head_is xs = refl

head_rewrites : (n b : ℕ) (c : Counts) (xs : List ℕ) (r : Read Headed) → with_symbols n b c xs ≡ accepted r → r.value.numbers.rewrites ≡ c.rewrites
head_rewrites n b c xs r e =
    let (m, _, f) = bind_accepted (field 10) (λ m. return (with_all n b c m)) xs r e in
    return_accepted (with_all n b c m.value) m.left r (λ z. z.value.numbers.rewrites ≡ c.rewrites) f refl

abbrev small : Headed → Type 0
small h = h.numbers.rewrites < 2 ^ 32

-- the budget has 32 bits
pub head_budget : (bytes : List ℕ) (at : ℕ) (r : Read Headed) → read_head (bits_at bytes at) ≡ accepted r → r.value.numbers.budget < 2 ^ 32
head_budget bytes at r e =
    let xs = bits_at bytes at in
    let (n, f, g) = bind_accepted (field 3) with_budget xs r (sym (head_is xs) ∙ e) in
    let (b, h, i) = bind_accepted (field 32) (with_counts n.value) n.left r g in
    let (c, _, j) = bind_accepted read_counts (with_symbols n.value b.value) b.left r i in
    let (m, _, k) = bind_accepted (field 10) (λ m. return (with_all n.value b.value c.value m)) c.left r j in
    let s = (field_bounded 32 n.left b (field_bounded 3 xs n (all_drop at (bits_of bytes) (bits_below bytes)) f).1 h).0 in
    return_accepted (with_all n.value b.value c.value m.value) m.left r (λ z. z.value.numbers.budget < 2 ^ 32) k s

module _ {bytes : List ℕ} {at : ℕ} where
  head_lacks : Lacks small ((field 3 >>= with_budget) (bits_at bytes at)) → HeadTaken bytes at None
  head_lacks l = record { is = λ r e. l r (sym (head_is (bits_at bytes at)) ∙ e) }

  pub units_out : field 3 (bits_at bytes at) ≡ refused 1 → HeadTaken bytes at None
  units_out e = head_lacks (first_none (field 3) with_budget (bits_at bytes at) small (refused_lacks Any e))

  module _ {n p : ℕ} (e : Got bytes at 3 n p) where
    behind_units : Lacks small (with_budget n (bits_at bytes p)) → HeadTaken bytes at None
    behind_units l = head_lacks (second_lacks (field 3) with_budget (bits_at bytes at) small n (bits_at bytes p) e.is l)

    pub budget_out : field 32 (bits_at bytes p) ≡ refused 1 → HeadTaken bytes at None
    budget_out f = behind_units (first_none (field 32) (with_counts n) (bits_at bytes p) small (refused_lacks Any f))

    module _ {b q : ℕ} (f : Told bytes p 32 b q) where
      behind_budget : Lacks small (with_counts n b (bits_at bytes q)) → HeadTaken bytes at None
      behind_budget l = behind_units (second_lacks (field 32) (with_counts n) (bits_at bytes p) small b (bits_at bytes q) f.is l)

      pub counts_none : CountsTaken bytes q None → HeadTaken bytes at None
      counts_none c =
          behind_budget (first_lacks read_counts (with_symbols n b) (bits_at bytes q) few small c.are
          (λ c' ys r g s. let z = head_rewrites n b c' ys r g in omega (arith, z, s)))

      module _ {c : Counts} {i : ℕ} (t : CountsTaken bytes q (Some (record { value = c; next = i }))) where
        pub symbols_out : field 10 (bits_at bytes i) ≡ refused 1 → HeadTaken bytes at None
        symbols_out g =
            behind_budget (second_lacks read_counts (with_symbols n b) (bits_at bytes q) small c (bits_at bytes i) t.are
            (first_none (field 10) (λ m. return (with_all n b c m)) (bits_at bytes i) small (refused_lacks Any g)))

        pub head_read : {m next u w k : ℕ} → Got bytes i 10 m next → u ≡ n + 1 → w ≡ b → k ≡ m + 1 →
            HeadTaken bytes at (Some (record {
              value = record { numbers = record { units = u; budget = w; rewrites = c.rewrites; entries = c.entries; granted = c.granted; kept = c.kept }; symbols = k };
              next = next;
            }))
        head_read {m} {next} g eu ew ek =
            let ln = e.small in
            let lm = g.small in
            record {
              is = (
                head_is (bits_at bytes at)
                    ∙ bind_return (field 3) with_budget (bits_at bytes at) (bits_at bytes p) n e.is
                    ∙ bind_return (field 32) (with_counts n) (bits_at bytes p) (bits_at bytes q) b f.is
                    ∙ bind_return read_counts (with_symbols n b) (bits_at bytes q) (bits_at bytes i) c t.are
                    ∙ bind_return (field 10) (λ m. return (with_all n b c m)) (bits_at bytes i) (bits_at bytes next) m g.is
                    ∙ rw (eu, ew, ek, add-one n, add-one m) refl,
                record { some_units = omega arith; few_units = omega arith; few_symbols = omega arith },
              );
            }
