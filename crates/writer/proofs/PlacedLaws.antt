-- Laws of bytes that are laid down one after another in an output, and in a part of it.
use Prim.Native.Nat.{ℕ, suc, ◌+◌, ◌-◌, ◌≤◌, min}
use native.Mathlib.Nat.{add-suc}
use native.Mathlib.Omega.{arith}
use native.Mathlib.Decide.{dec_le}
use mathlib.Core.Path.{◌≡◌, refl, sym, ap, ◌∙◌}
use mathlib.Core.List.{[], ◌∷◌, ◌++◌, append-nil}
use lib.ListN.{length, take, drop, set, length-append, length-drop, take-append-drop, drop_of_length-le}
use lib.Seq.{sets, length-sets, take-set-le, drop-set-add, take_all}
use borrow.Rule.Slice.PartMut.{put_mid, same_len_mid}
use Rattle.spec.specs.Bytes.{Bytes}
use Rattle.text.proofs.StoreLaws.{sets_out, stores_on, laid_down}
use Rattle.writer.specs.Writing.{Placed, PlacedSome}

-- stores from a place on are stores to the part that begins before it
sets_part : (n : ℕ) (l : Bytes) (i : ℕ) (vs : Bytes) → sets l (n + i) vs ≡ take n l ++ sets (drop n l) i vs
sets_part n l i [] = sym (take-append-drop n l)
sets_part n l i (a ∷ vs) =
    ap (λ k. sets (set l (n + i) a) k vs) (sym (add-suc n i))
    ∙ sets_part n (set l (n + i) a) (suc i) vs
    ∙ rw (take-set-le n l (n + i) a (omega arith), drop-set-add n l i a)

-- stores past the end change nothing, wherever they begin
sets_capped : (l : Bytes) (i : ℕ) (vs : Bytes) → sets l (min i (length l)) vs ≡ sets l i vs
sets_capped l i vs = go (dec_le i (length l))
  where
    go : Dec (i ≤ length l) → sets l (min i (length l)) vs ≡ sets l i vs
    go (yes h) = let e : min i (length l) ≡ i = omega arith in ap (λ k. sets l k vs) e
    go (no h) = sets_out l (min i (length l)) vs (omega arith) ∙ sym (sets_out l i vs (omega arith))

module _ {bytes : Bytes} {at : ℕ} {before after : Bytes} {next : ℕ} (p : Placed bytes at before after next) where
  pub placed-length : length after ≡ length before
  placed-length = ap length p.after_is ∙ length-sets before at bytes

  pub placed-inside : next ≤ length before
  placed-inside = omega (arith, p.next_is)

-- the same bytes, said another way
pub placed_as : {bytes others : Bytes} {at : ℕ} {before after : Bytes} {next : ℕ} → bytes ≡ others → Placed others at before after next
    → Placed bytes at before after next
placed_as {at = at} {before} e p = record {
  next_is = p.next_is ∙ ap (λ b. min (at + length b) (length before)) (sym e);
  after_is = p.after_is ∙ ap (sets before at) (sym e);
}

pub placed_none : (at : ℕ) (before : Bytes) → at ≤ length before → Placed [] at before before at
placed_none at before h = record { next_is = omega arith; after_is = refl }

-- no room at all
pub placed-full : (bytes before : Bytes) → length before ≡ 0 → Placed bytes 0 before before 0
placed-full bytes before h = record { next_is = omega arith; after_is = sym (sets_out before 0 bytes (omega arith)) }

-- bytes behind bytes
pub placed_on : {u v : Bytes} {i j k : ℕ} {before between after : Bytes} → Placed u i before between j → Placed v j between after k
    → Placed (u ++ v) i before after k
placed_on {u} {v} {i} {j} {k} {before} {between} {after} p q =
    let long = placed-length p in
    let place : j ≡ min (i + length u) (length between) = p.next_is ∙ ap (min (i + length u)) (sym long) in
    record {
      next_is = q.next_is ∙ rw (length-append u v, p.next_is, long) (omega arith);
      after_is = stores_on before i u v p.after_is (q.after_is ∙ ap (λ n. sets between n v) place ∙ sets_capped between (i + length u) v) refl;
    }

-- ---- a part `&mut out[put..]` that is lent to a call, and the whole when it is back
abbrev pub lent_part : Bytes → ℕ → Bytes
lent_part out put = take (length out - put) (drop put out)

abbrev pub back : Bytes → ℕ → Bytes → Bytes
back out put part = put_mid put (length out - put) out part

module _ (out : Bytes) (put : ℕ) where
  lent_is : lent_part out put ≡ drop put out
  lent_is = take_all (length out - put) (drop put out) (rw length-drop (omega arith))

  back_is : (ys : Bytes) → back out put ys ≡ take put out ++ ys
  back_is ys =
      ap (λ l. take put out ++ (ys ++ l)) (drop_of_length-le (drop put out) {i = length out - put} (rw length-drop (omega arith)))
      ∙ ap (λ l. take put out ++ l) (append-nil ys)

  -- it comes back as long as it was lent, and so does the whole; and what fits the part fits the whole
  pub back_length : (ys : Bytes) → length ys ≡ length (lent_part out put) → length (back out put ys) ≡ length out
  back_length ys e = same_len_mid put (length out - put) out ys e

  pub lent_fits : (n : ℕ) → n ≤ length (lent_part out put) → put ≤ length out → put + n ≤ length out
  lent_fits n h l = omega (arith, ap length lent_is, length-drop put out)

-- bytes laid down in the part behind others, said of the whole
pub placed_then : {u v : Bytes} {i j n : ℕ} {before between part : Bytes} → Placed u i before between j → Placed v 0 (lent_part between j) part n
    → Placed (u ++ v) i before (back between j part) (j + n)
placed_then {u} {v} {i} {j} {n} {before} {between} {part} p q =
    let h : j ≤ length between = omega (arith, placed-inside p, placed-length p) in
    let e = lent_is between j in
    let long : length (drop j between) ≡ length between - j = length-drop j between in
    let count = q.next_is ∙ ap (λ l. min (0 + length v) (length l)) e in
    let zero_more : j + 0 ≡ j = omega arith in
    placed_on p
    (record {
      next_is = omega arith;
      after_is =
          back_is between j part
          ∙ ap (λ l. take j between ++ l) (q.after_is ∙ ap (λ l. sets l 0 v) e)
          ∙ sym (sets_part j between 0 v)
          ∙ ap (λ k. sets between k v) zero_more;
    })

-- a turn of a loop that lends the rest of the output twice: what both calls put fits, and the output is as long as before
pub turn_fits : (out : Bytes) (put n : ℕ) (part last : Bytes) {m : ℕ} → put + n ≤ length out → length part ≡ length (lent_part out put)
    → length last ≡ length (lent_part (back out put part) (put + n)) → m ≤ length (lent_part (back out put part) (put + n))
    → (put + n + m ≤ length out) × (length (back (back out put part) (put + n) last) ≡ length out)
turn_fits out put n part last {m} h j k f =
    let between : Bytes = back out put part in
    let same : length between ≡ length out = back_length out put part j in
    let second : put + n + m ≤ length between = lent_fits between (put + n) m f (omega arith) in
    (omega arith, back_length between (put + n) last k ∙ same)

-- where there is room for all
pub placed_whole : {bytes before after : Bytes} {next : ℕ} → Placed bytes 0 before after next → length bytes ≤ length before
    → (next ≡ length bytes) × (after ≡ bytes ++ drop (length bytes) before)
placed_whole {bytes} {before} p h = (omega (arith, p.next_is), p.after_is ∙ laid_down bytes before h)

-- bytes between two others, where there is room for all of them; n is how many they are
pub placed_quoted : (q : ℕ) (s : Bytes) {n : ℕ} {before between after : Bytes} → length s + 2 ≤ length before → n ≡ length s
    → between ≡ sets (set before 0 q) 1 s → after ≡ set between (1 + n) q → Placed ((q ∷ []) ++ s ++ (q ∷ [])) 0 before after (n + 2)
placed_quoted q s {n} {before} {between} h e p f =
    record {
      next_is = rw (length-append s (q ∷ [])) (omega arith);
      after_is = f ∙ ap (λ k. set between (1 + k) q) e ∙ stores_on (set before 0 q) 1 s (q ∷ []) p refl refl;
    }

-- ---- some bytes
pub some_none : (at : ℕ) (before : Bytes) → at ≤ length before → PlacedSome at before before at
some_none at before h = record { bytes = []; placed = placed_none at before h }

pub some_then : {i j n : ℕ} {before between part v : Bytes} → PlacedSome i before between j → Placed v 0 (lent_part between j) part n
    → PlacedSome i before (back between j part) (j + n)
some_then s q = record { bytes = _; placed = placed_then s.placed q }

pub some_on : {u : Bytes} {i j k : ℕ} {before between after : Bytes} → Placed u i before between j → PlacedSome j between after k → PlacedSome i before after k
some_on p s = record { bytes = _; placed = placed_on p s.placed }
