-- `token_name` meets its contract.
use native.Mathlib.Omega.{arith}
use mathlib.Core.Path.{ap, ◌∙◌}
use Prim.Native.Nat.{◌+◌, ◌%◌}
use lib.ListN.{length}
use Rattle.spec.specs.Bytes.{Bytes}
use Rattle.tape.specs.Layout.{values}
use Rattle.table.specs.Meaning.{short_hash}
use Rattle.tape.specs.Lent.{both}
use Rattle.walk.proofs.NameLaws.{token-named, no_token}
use Rattle.walk.proofs.names.token_name.Goals as goal

pub returns-then-pointer-at : goal.returns-then-pointer-at
returns-then-pointer-at c = no_token _ _ _ _ _ c.part-pointer.ensures _ c.if-pointer-at.true c.no_name.ensures

pub returns : goal.returns
returns c =
    token-named (both c.args.texts) c.args.path c.args.at c.args.token _ c.part-pointer.ensures _ _ _ _ (omega (arith, c.wide.ensures))
    c.if-pointer-at.false c.source_of.ensures (c.narrow.ensures ∙ ap (λ n. (n + c.args.at) % values) c.wide.ensures.0)
    (c.narrow-2.ensures ∙ ap (λ (l : Bytes). length l % values) c.token_part-bytes.ensures)
    (c.short.ensures ∙ ap short_hash (c.hash_text.ensures ∙ rw (c.long.ensures, c.token_part-bytes.ensures)))
