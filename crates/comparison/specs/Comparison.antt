-- How many names equality compares: SPECIFICATION 17.2. T-10: "Equality shall report its count of name comparisons".
use Rattle.std.specs.Prelude.{ℕ, ◌+◌, ◌*◌, ◌≤◌, ◌≡◌, Bool, true, false, eqb, if◌then◌else◌}
use Rattle.spec.specs.Bytes.{Text}
use Rattle.spec.specs.Forest.{none, tree, count}
use Rattle.spec.specs.Value as Value
use Rattle.spec.specs.Value.{Label, Members, is_object, same_text, nodes}
use Rattle.spec.specs.Equality.{same_label, from_name, equal}

-- a verdict, and the names that were compared for it
pub record Compared : Type 0 where
  pub same : Bool
  pub names : ℕ

-- a verdict, and the number of names compared for it
abbrev pub after : ℕ → Bool → Compared
after names same = record { same = same; names = names }

infixr 15 ◌then◌
-- "all stops at the first difference"
unfoldable pub ◌then◌ : Compared → Compared → Compared
◌then◌ a b = if a.same then after (a.names + b.names) b.same else a

-- a name "against the patch value's names from the first until one matches"
unfoldable pub lookups : Text → Members → ℕ
lookups n none = 0
lookups n (tree e kids rest) = if same_text e.name n then 1 else 1 + lookups n rest

-- Two values, after `names` names were compared: by their labels, by how many values are in them, and by what comes of comparing those. "Unequal
-- member counts or array lengths differ without a comparison."
abbrev pub compared_value : ℕ → Label → Members → Label → Members → Compared → Compared
compared_value names l kids m below inside = after names (same_label l m) then (after 0 (eqb (count kids) (count below)) then inside)

unfoldable mutual
  -- "arrays element by element"
  pub compared_elements : Members → Members → Compared
  compared_elements none g = after 0 true
  compared_elements (tree e kids f) none = after 0 false
  compared_elements (tree e kids f) (tree p below g) =
      compared_value 0 e.label kids p.label below (if is_object e.label then compared_members kids below else compared_elements kids below)
      then compared_elements f g

  -- "the target's members in order, each against the patch value's names from the first until one matches, their two values then at once"
  pub compared_members : Members → Members → Compared
  compared_members none g = after 0 true
  compared_members (tree e kids f) g =
      elim (from_name e.name g) [
        | none ↦ after (lookups e.name g) false
        | tree p below rest ↦
            compared_value (lookups e.name g) e.label kids p.label below
            (if is_object e.label then compared_members kids below else compared_elements kids below)
            then compared_members f g
      ]

-- of a target and a patch's value
unfoldable pub compared : Value.Value → Value.Value → Compared
compared v w =
    compared_value 0 v.label v.kids w.label w.kids
    (if is_object v.label then compared_members v.kids w.kids else compared_elements v.kids w.kids)

pub record ComparisonStatement : Type 0 where
  -- the verdict is that of SPECIFICATION 7
  pub verdict : (v w : Value.Value) → (compared v w).same ≡ equal v w
  -- "for values of a and b nodes it is at most a times b"
  pub bound : (v w : Value.Value) → (compared v w).names ≤ nodes v * nodes w
  -- the two top values have no names, so they do not count
  pub sharper : (v w : Value.Value) (a b : ℕ) → nodes v ≡ 1 + a → nodes w ≡ 1 + b → (compared v w).names ≤ a * b
