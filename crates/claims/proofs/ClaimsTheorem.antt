-- Every claim, by the file that proves it.
use Rattle.claims.specs.Claims.{Claims}
use Rattle.claims.proofs.NumbersTheorem.{numbers}
use Rattle.claims.proofs.EqualityTheorem.{equality}
use Rattle.claims.proofs.PointersTheorem.{pointers}
use Rattle.claims.proofs.OperationsTheorem.{operations}
use Rattle.claims.proofs.RoundTripTheorem.{round_trip}

pub claims : Claims
claims = record { numbers = numbers; equality = equality; pointers = pointers; operations = operations; round_trip = round_trip }
