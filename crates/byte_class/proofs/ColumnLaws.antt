-- Entries changed in a table that follows a rule.
use Rattle.std.specs.Prelude.{if◌then◌else◌}
use Prim.Native.Nat.{ℕ, suc, ◌+◌, ◌≤◌, ◌<◌}
use Prim.Native.Char.{code}
use mathlib.Core.Path.{◌≡◌, refl, ◌∙◌, subst}
use mathlib.Core.Bool.{Bool, true, false, ◌&&◌}
use mathlib.Core.List.{List}
use native.Mathlib.Omega.{arith}
use borrow.Author.Tests.{eqb-true, eqb-false, leb-true, leb-false}
use lib.Dec.{eqb, leb}
use lib.ListN.{length, get_or, set, length-set}
use lib.Seq.{get_or-set_same, get_or-set_other}
use Rattle.spec.specs.Bytes.{within}
use Rattle.byte_class.specs.Class.{Follows, ClassRule}
use Rattle.byte_class.specs.Column.{from_80, from_90, first_E0, first_ED, first_F0, first_F4, kept_escape_lem}
use Rattle.byte_class.specs.Column.{continued, lettered, column_of, ColumnRule}
use Rattle.byte_class.specs.Laying.{Laid}

-- one entry
pub follows_set : {rule : ℕ → ℕ} {table : List ℕ} (i v : ℕ) → i < 256 → Follows rule table →
    Follows (λ b. if eqb b i then v else rule b) (set table i v)
follows_set {rule} {table} i v h f = record { counted = length-set table i v ∙ f.counted; each = λ b l. go b l (eqb b i) refl }
  where
    go : (b : ℕ) → b < 256 → (t : Bool) → eqb b i ≡ t → get_or (set table i v) b 0 ≡ (if t then v else rule b)
    go b l true t = rw (eqb-true b i t) (get_or-set_same table i v 0 (omega (arith, f.counted)))
    go b l false t = get_or-set_other table i b v 0 (eqb-false b i t) ∙ f.each b l

-- entries one after another
pub none_laid : (low v : ℕ) (table : List ℕ) → Laid low low v table table
none_laid low v table = record { counted = refl; under = λ b h. refl; inside = λ b l h. absurd (omega arith); over = λ b h. refl }

pub laid_next : {low high v : ℕ} {before after : List ℕ} → Laid low high v before after → low ≤ high → length before ≡ 256 → high < 256 →
    Laid low (high + 1) v before (set after high v)
laid_next {low} {high} {v} {before} {after} d l long h =
    record {
      counted = length-set after high v ∙ d.counted;
      under = λ b m. get_or-set_other after high b v 0 (λ e. omega arith) ∙ d.under b m;
      inside = λ b m n. go b m n (eqb b high) refl;
      over = λ b m. get_or-set_other after high b v 0 (λ e. omega arith) ∙ d.over b (omega arith);
    }
  where
    go : (b : ℕ) → low ≤ b → b < high + 1 → (t : Bool) → eqb b high ≡ t → get_or (set after high v) b 0 ≡ v
    go b m n true t = rw (eqb-true b high t) (get_or-set_same after high v 0 (omega (arith, d.counted)))
    go b m n false t =
        let q = eqb-false b high t in
        let less : b < high = omega arith in
        get_or-set_other after high b v 0 q ∙ d.inside b m less

pub laid_to : {low high last v : ℕ} {before after : List ℕ} → Laid low high v before after → high ≡ last → Laid low last v before after
laid_to {low} {v = v} {before} {after} d e = subst (λ (n : ℕ). Laid low n v before after) e d

pub follows_laid : {rule : ℕ → ℕ} {low v : ℕ} {before after : List ℕ} (last : ℕ) → Laid low (suc last) v before after → Follows rule before →
    Follows (λ b. if within low last b then v else rule b) after
unfolding within
follows_laid {rule} {low} {v} {before} {after} last d f =
    record { counted = d.counted ∙ f.counted; each = λ b l. go b l (leb low b) (leb b last) refl refl }
  where
    go : (b : ℕ) → b < 256 → (s t : Bool) → leb low b ≡ s → leb b last ≡ t → get_or after b 0 ≡ (if s && t then v else rule b)
    go b l true true p q =
        let m = leb-true low b p in
        let n = leb-true b last q in
        let less : b < suc last = omega arith in
        d.inside b m less
    go b l true false p q =
        let n = leb-false b last q in
        let more : suc last ≤ b = omega arith in
        d.over b more ∙ f.each b l
    go b l false t p q =
        let n = leb-false low b p in
        let less : b < low = omega arith in
        d.under b less ∙ f.each b l

-- the classes with all of these changes: the last is the definition's first test
pub column_rule : {classes low middle : List ℕ} → ClassRule classes → Laid 0x80 0x90 from_80 classes low → Laid 0x90 0xA0 from_90 low middle →
    ColumnRule
    (set (set (set (set
    (set (set (set (set (set middle (code "b") kept_escape_lem) (code "f") kept_escape_lem) (code "n") kept_escape_lem) (code "r") kept_escape_lem)
    (code "t") kept_escape_lem)
    0xE0 first_E0) 0xED first_ED) 0xF0 first_F0) 0xF4 first_F4)
unfolding column_of lettered continued
column_rule f low middle =
    follows_set 0xF4 _ (omega arith)
    (follows_set 0xF0 _ (omega arith)
    (follows_set 0xED _ (omega arith)
    (follows_set 0xE0 _ (omega arith)
    (follows_set (code "t") _ (omega arith)
    (follows_set (code "r") _ (omega arith)
    (follows_set (code "n") _ (omega arith)
    (follows_set (code "f") _ (omega arith)
    (follows_set (code "b") _ (omega arith) (follows_laid 0x9F middle (follows_laid 0x8F low f))))))))))
