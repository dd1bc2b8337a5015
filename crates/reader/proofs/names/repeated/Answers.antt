-- `repeated` meets its contract: by the hash, by the search path, otherwise by a search.
use mathlib.Core.Path.{refl, sym}
use Rattle.index.proofs.WayLaws.{entered_after}
use Rattle.reader.proofs.MemberLaws.{repeated_new, repeated_sought}
use Rattle.reader.proofs.names.repeated.Goals as goal
use Rattle.reader.proofs.names.repeated.Goals.{then-enter_by_hash-via-then-enter_by_hash, then-enter_by_hash-via-else-enter_by_hash+then-not-enter}

pub returns-then-enter_by_hash : goal.returns-then-enter_by_hash
returns-then-enter_by_hash c =
    elim c.then-enter_by_hash.branch [
      | then-enter_by_hash-via-then-enter_by_hash w ↦
          rw w.index-is (repeated_new _ c.requires (c.enter_by_hash.ensures.entered w.if-enter_by_hash.true _) refl)
      | then-enter_by_hash-via-else-enter_by_hash+then-not-enter w ↦
          rw w.index-is (repeated_new _ c.requires (entered_after c.enter_by_hash.ensures w.if-enter_by_hash.false w.enter.ensures) w.if-not-enter.true)
    ]

pub returns : goal.returns
returns c =
    let e = entered_after c.enter_by_hash.ensures c.if-enter_by_hash.false c.enter.ensures in
    repeated_sought _ c.requires e _ c.find.ensures (sym c.is_some.ensures)
