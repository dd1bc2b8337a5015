-- The theorems of specs/Theorems, each by the laws that it follows from.
use Prim.Native.Nat.{ℕ, ◌<◌, ◌≤◌}
use mathlib.Core.Path.{◌≡◌, subst, sym}
use mathlib.Core.List.{◌++◌}
use native.Mathlib.Omega.{arith}
use native.Mathlib.Decide.{dec_lt}
use lib.ListN.{length, take, drop, take-append-drop}
use lib.Seq.{length-take-le, take-length}
use Rattle.spec.specs.Outcome.{refused}
use Rattle.spec.specs.Refusal.{not_json}
use Rattle.spec.specs.Bytes.{Bytes}
use Rattle.spec.specs.Read.{read}
use Rattle.grammar.specs.Grammar.{JSON-text}
use Rattle.grammar.specs.Limits.{WithinLimits}
use Rattle.grammar.specs.Theorems.{Soundness, Completeness, Exactness, Unambiguity, Refusals, Begins, PlaceOf3, CutShort}
use Rattle.grammar.proofs.Places.{whole, prefix, inside}
use Rattle.grammar.proofs.Sound.{Sound, found, stopped}
use Rattle.grammar.proofs.Complete.{reads_it, refusal_reason, not_refused}
use Rattle.grammar.proofs.ReadSound.{read_sound}
use Rattle.grammar.proofs.ReadComplete.{read_complete}
use Rattle.grammar.proofs.Within.{Yields, yielded, read-within}
use Rattle.grammar.proofs.Unambiguous.{one_meaning}
use Rattle.grammar.proofs.Local.{Agree, agree, Local, same_stop}
use Rattle.grammar.proofs.ReadLocal.{read_local}

pub soundness : Soundness
soundness s v e =
    let r = found (subst (Sound s (λ v. length s) 0 JSON-text) e (read_sound s)) in
    subst (λ w. JSON-text w v) (sym (whole r.from)) r.derived

pub completeness : Completeness
completeness s v d limits = reads_it (read_complete d) limits

pub exactness : Exactness
exactness s v = ((λ e. (soundness s v e, yielded (subst (Yields WithinLimits) e (read-within s)))), (λ d. completeness s v d.0 d.1))

pub unambiguity : Unambiguity
unambiguity s v w d d' = one_meaning d d'

pub refusals : Refusals
refusals s v number p d e = refusal_reason (read_complete d) e

-- what is refused at p on s is refused at p on every text that begins with more of s than that
pub refused_alike : (s : Bytes) (number p : ℕ) → read s ≡ refused number p → (n : ℕ) → p < n → n ≤ length s → (rest : Bytes) →
    read (take n s ++ rest) ≡ refused number p
refused_alike s number p e n l h rest =
    let alike : Agree s (take n s ++ rest) (length (take n s)) =
    subst (λ x. Agree x (take n s ++ rest) (length (take n s))) (take-append-drop n s) (agree (take n s) (drop n s) rest) in
    same_stop (subst (λ o. Local (length (take n s)) (λ v. length s) 0 o (read (take n s ++ rest))) e (read_local alike)) (omega (arith, length-take-le n s h))

pub place_of_3 : PlaceOf3
place_of_3 s p e =
    let r = stopped (subst (Sound s (λ v. length s) 0 JSON-text) e (read_sound s)) in
    record {
      inside = inside r.from (omega arith);
      begins = subst Begins (sym (prefix r.from)) (record { rest = r.some.text; meaning = r.some.meaning; derived = r.some.derived });
      longest = λ n l h b. not_refused (read_complete b.derived) (refused_alike s not_json p e n (omega arith) h b.rest);
    }

pub cut_short : CutShort
cut_short s p b e = go (dec_lt p (length s))
  where
    go : Dec (p < length s) → p ≡ length s
    go (yes l) = absurd ((place_of_3 s p e).longest (length s) l (omega arith) (subst Begins (sym (take-length s)) b))
    go (no l) = let i = (place_of_3 s p e).inside in omega arith
