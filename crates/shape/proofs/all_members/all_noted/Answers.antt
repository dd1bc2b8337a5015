-- `all_noted` meets its contract: the four hashes are those of the words, and each word says itself.
use mathlib.Core.Path.{refl}
use native.Mathlib.Omega.{arith}
use Rattle.spec.specs.Bytes.{ascii, byte, within}
use Rattle.spec.specs.Strings.{character}
use Rattle.lexer.specs.Hash.{hash, hash_from, mix}
use Rattle.text.specs.Decode.{decode, decode_from, decode_loop, before, character_in}
use Rattle.table.specs.Meaning.{short_hash}
use Rattle.table.proofs.Search.{other-named}
use Rattle.shape.proofs.PassLaws.{each_noted, noted_other}
use Rattle.shape.proofs.all_members.all_noted.Goals as goal

pub noted-requires : goal.noted-requires
unfolding ascii byte within character hash hash_from mix decode decode_from decode_loop before character_in short_hash
noted-requires c = refl

pub noted-requires-in-11181 : goal.noted-requires-in-11181
unfolding ascii byte within character hash hash_from mix decode decode_from decode_loop before character_in short_hash
noted-requires-in-11181 c = refl

pub noted-requires-in-51041 : goal.noted-requires-in-51041
unfolding ascii byte within character hash hash_from mix decode decode_from decode_loop before character_in short_hash
noted-requires-in-51041 c = refl

pub noted-requires-in-7926 : goal.noted-requires-in-7926
unfolding ascii byte within character hash hash_from mix decode decode_from decode_loop before character_in short_hash
noted-requires-in-7926 c = refl

pub returns-in-357 : goal.returns-in-357
unfolding ascii byte within character hash hash_from mix decode decode_from decode_loop before character_in short_hash
returns-in-357 c =
    each_noted _ _ _ _
    c.noted.ensures
    (noted_other _ _ _ _ _ _ (other-named _ _ _ _ (λ e. omega (arith, c.in-357.is, e))))
    (noted_other _ _ _ _ _ _ (other-named _ _ _ _ (λ e. omega (arith, c.in-357.is, e))))
    (noted_other _ _ _ _ _ _ (other-named _ _ _ _ (λ e. omega (arith, c.in-357.is, e))))

pub returns-in-11181 : goal.returns-in-11181
unfolding ascii byte within character hash hash_from mix decode decode_from decode_loop before character_in short_hash
returns-in-11181 c =
    each_noted _ _ _ _
    (noted_other _ _ _ _ _ _ (other-named _ _ _ _ (λ e. omega (arith, c.in-11181.is, e))))
    c.noted-in-11181.ensures
    (noted_other _ _ _ _ _ _ (other-named _ _ _ _ (λ e. omega (arith, c.in-11181.is, e))))
    (noted_other _ _ _ _ _ _ (other-named _ _ _ _ (λ e. omega (arith, c.in-11181.is, e))))

pub returns-in-51041 : goal.returns-in-51041
unfolding ascii byte within character hash hash_from mix decode decode_from decode_loop before character_in short_hash
returns-in-51041 c =
    each_noted _ _ _ _
    (noted_other _ _ _ _ _ _ (other-named _ _ _ _ (λ e. omega (arith, c.in-51041.is, e))))
    (noted_other _ _ _ _ _ _ (other-named _ _ _ _ (λ e. omega (arith, c.in-51041.is, e))))
    c.noted-in-51041.ensures
    (noted_other _ _ _ _ _ _ (other-named _ _ _ _ (λ e. omega (arith, c.in-51041.is, e))))

pub returns-in-7926 : goal.returns-in-7926
unfolding ascii byte within character hash hash_from mix decode decode_from decode_loop before character_in short_hash
returns-in-7926 c =
    each_noted _ _ _ _
    (noted_other _ _ _ _ _ _ (other-named _ _ _ _ (λ e. omega (arith, c.in-7926.is, e))))
    (noted_other _ _ _ _ _ _ (other-named _ _ _ _ (λ e. omega (arith, c.in-7926.is, e))))
    (noted_other _ _ _ _ _ _ (other-named _ _ _ _ (λ e. omega (arith, c.in-7926.is, e))))
    c.noted-in-7926.ensures

pub returns-in_default : goal.returns-in_default
unfolding ascii byte within character hash hash_from mix decode decode_from decode_loop before character_in short_hash
returns-in_default c =
    each_noted _ _ _ _
    (noted_other _ _ _ _ _ _ (other-named _ _ _ _ (λ e. omega (arith, e))))
    (noted_other _ _ _ _ _ _ (other-named _ _ _ _ (λ e. omega (arith, e))))
    (noted_other _ _ _ _ _ _ (other-named _ _ _ _ (λ e. omega (arith, e))))
    (noted_other _ _ _ _ _ _ (other-named _ _ _ _ (λ e. omega (arith, e))))
