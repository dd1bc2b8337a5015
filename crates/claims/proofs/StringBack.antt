-- A string that is written is read back.
use mathlib.Core.Path.{◌≡◌}
use mathlib.Core.List.{[], ◌∷◌, ◌++◌, append_assoc}
use Prim.Native.Nat.{ℕ, zero, suc, ◌+◌, ◌≤◌, ◌<◌}
use native.Mathlib.Omega.{arith}
use lib.ListN.{length, length-append}
use Rattle.spec.specs.Outcome.{ok, ◌>>=◌}
use Rattle.spec.specs.Bytes.{Bytes, Text}
use Rattle.spec.specs.Strings.{characters, string}
use Rattle.spec.specs.Write.{write_character, write_characters, write_string}
use Rattle.spec.specs.Proper.{ScalarValues, nothing, another}
use Rattle.claims.proofs.Rest.{Rest, first_byte, rest_next, rest_more, rest_length, byte_in_ok}
use Rattle.claims.proofs.CharacterBack.{character_back, character-length}

characters_back : {s : Bytes} {at : ℕ} (fuel : ℕ) (cs : Text) (r : Bytes) → length cs < fuel → ScalarValues cs →
    Rest s at (write_characters cs ++ (34 ∷ r)) → characters fuel s at ≡ ok (cs, at + (length (write_characters cs) + 1))
unfolding characters write_characters ◌>>=◌
characters_back zero cs r l scalars h = absurd (omega arith)
characters_back (suc fuel) [] r l nothing h = rw (first_byte h)
characters_back {s} {at} (suc fuel) (c ∷ cs) r l (another scalar scalars) h =
    let here = rw (append_assoc (write_character c) (write_characters cs) (34 ∷ r)) at h in
    let b = character_back c (write_characters cs ++ (34 ∷ r)) scalar here in
    let others = characters_back {at = at + length (write_character c)} fuel cs r (omega arith) scalars (rest_more (write_character c) here) in
    let place : at + length (write_character c) + (length (write_characters cs) + 1) ≡ at + (length (write_character c ++ write_characters cs) + 1) =
    omega (arith, length-append (write_character c) (write_characters cs)) in
    rw (b.no_quote, b.reads, others, place)

characters-length : (cs : Text) → length cs ≤ length (write_characters cs)
unfolding write_characters
characters-length [] = omega arith
characters-length (c ∷ cs) =
    omega (arith, characters-length cs, character-length c, length-append (write_character c) (write_characters cs))

pub string-back : {s : Bytes} {at : ℕ} (cs : Text) (r : Bytes) → ScalarValues cs → Rest s at (write_string cs ++ r) →
    string s at ≡ ok (cs, at + length (write_string cs))
unfolding string write_string ◌>>=◌
string-back {s} {at} cs r scalars h =
    let inside = rw (append_assoc (write_characters cs) (34 ∷ []) r) at (rest_next h) in
    let fuel : length cs < length s =
    omega (arith, rest_length inside, characters-length cs, length-append (write_characters cs) (34 ∷ r)) in
    let place : at + 1 + (length (write_characters cs) + 1) ≡ at + suc (length (write_characters cs ++ (34 ∷ []))) =
    omega (arith, length-append (write_characters cs) (34 ∷ [])) in
    rw (byte_in_ok s at 34 34 34 (first_byte h) (omega arith) (omega arith), characters_back (length s) cs r fuel scalars inside, place)
