-- What the definitions of crates/spec mean, in the standards' own words: a page of contents. Each statement is a record that quotes the
-- sentence it renders; proofs/ClaimsTheorem proves them all.
use Rattle.claims.specs.Numbers.{NumbersStatement}
use Rattle.claims.specs.Equality.{EqualityStatement}
use Rattle.claims.specs.Pointers.{PointersStatement}
use Rattle.claims.specs.Operations.{OperationsStatement}
use Rattle.claims.specs.RoundTrip.{RoundTripStatement}

pub record Claims : Type 0 where
  -- numbers compare by their exact values
  pub numbers : NumbersStatement
  -- values compare by the rules of RFC 6902, section 4.6, whatever the order of members
  pub equality : EqualityStatement
  -- a pointer is its tokens, escaped
  pub pointers : PointersStatement
  -- replace, move, copy and test in terms of remove and add; a patch that fails writes nothing
  pub operations : OperationsStatement
  -- what is written is JSON text, and is read back as what was written
  pub round_trip : RoundTripStatement
