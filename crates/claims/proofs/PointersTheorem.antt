-- A pointer's tokens and its text determine each other.
use Rattle.std.specs.Prelude.{if◌then◌else◌}
use mathlib.Core.Path.{◌≡◌, refl, ap, sym, ◌∙◌}
use mathlib.Core.Bool.{Bool, true, false}
use mathlib.Core.List.{List, [], ◌∷◌, ◌++◌, append-nil, append_assoc}
use Prim.Native.Nat.{ℕ}
use lib.Dec.{eqb}
use borrow.Author.Tests.{eqb-true}
use Rattle.spec.specs.Outcome.{ok, refused, ◌>>=◌}
use Rattle.spec.specs.Bytes.{Text, ascii}
use Rattle.spec.specs.Pointer.{Tokens, prepend, segments, tilde, unescape, unescape_all, tokens}
use Rattle.spec.proofs.OutcomeLaws.{refused≢ok, both_ok}
use Rattle.claims.specs.Pointers.{escape_character, escape_token, pointer_of, PointersStatement}

-- a character by its escape
pub data Escaped : ℕ → Text → Type 0 where
  tilde-escaped : Escaped 126 (126 ∷ 48 ∷ [])
  slash_escaped : Escaped 47 (126 ∷ 49 ∷ [])
  plain : {c : ℕ} → eqb c 126 ≡ false → eqb c 47 ≡ false → Escaped c (c ∷ [])

either : {c : ℕ} (test : Bool) {a b : Text} → (test ≡ true → Escaped c a) → (test ≡ false → Escaped c b) → Escaped c (if test then a else b)
either true f g = f refl
either false f g = g refl

pub escaped : (c : ℕ) → Escaped c (escape_character c)
unfolding escape_character ascii
escaped c =
    either (eqb c 126) (λ q. rw (eqb-true c 126 q) tilde-escaped) λ q.
    either (eqb c 47) (λ r. rw (eqb-true c 47 r) slash_escaped) λ r.
    plain q r

-- Written, then read

-- an escape has no slash, so it goes to the first of the texts between slashes
segments-escape : {c : ℕ} {w : Text} → Escaped c w → (r s : Text) (ss : List Text) → segments r ≡ s ∷ ss → segments (w ++ r) ≡ (w ++ s) ∷ ss
unfolding segments prepend
segments-escape tilde-escaped r s ss h = rw h
segments-escape slash_escaped r s ss h = rw h
segments-escape (plain q p) r s ss h = rw (p, h)

segments-token : (t r s : Text) (ss : List Text) → segments r ≡ s ∷ ss → segments (escape_token t ++ r) ≡ (escape_token t ++ s) ∷ ss
unfolding escape_token
segments-token [] r s ss h = h
segments-token (c ∷ t) r s ss h =
    rw (append_assoc (escape_character c) (escape_token t) r, append_assoc (escape_character c) (escape_token t) s)
    (segments-escape (escaped c) (escape_token t ++ r) (escape_token t ++ s) ss (segments-token t r s ss h))

-- the texts between the slashes of a pointer
escaped_all : Tokens → List Text
escaped_all [] = []
escaped_all (t ∷ ts) = escape_token t ∷ escaped_all ts

segments_pointer : (t : Text) (ts : Tokens) → segments (escape_token t ++ pointer_of ts) ≡ escape_token t ∷ escaped_all ts
unfolding pointer_of segments escaped_all
segments_pointer t [] = segments-token t [] [] [] refl ∙ rw (append-nil (escape_token t))
segments_pointer t (u ∷ ts) =
    segments-token t _ [] (escape_token u ∷ escaped_all ts) (ap (◌∷◌ []) (segments_pointer u ts)) ∙ rw (append-nil (escape_token t))

unescape-escape : {c : ℕ} {w : Text} → Escaped c w → (r s : Text) → unescape false r ≡ ok s → unescape false (w ++ r) ≡ ok (c ∷ s)
unfolding unescape tilde ◌>>=◌
unescape-escape tilde-escaped r s h = rw h
unescape-escape slash_escaped r s h = rw h
unescape-escape (plain q p) r s h = rw (q, h)

unescape_token_lem : (t : Text) → unescape false (escape_token t) ≡ ok t
unfolding escape_token unescape
unescape_token_lem [] = refl
unescape_token_lem (c ∷ t) = unescape-escape (escaped c) (escape_token t) t (unescape_token_lem t)

unescape_all_lem : (ts : Tokens) → unescape_all (escaped_all ts) ≡ ok ts
unfolding escaped_all unescape_all ◌>>=◌
unescape_all_lem [] = refl
unescape_all_lem (t ∷ ts) = rw (unescape_token_lem t, unescape_all_lem ts)

read_back : (ts : Tokens) → tokens (pointer_of ts) ≡ ok ts
unfolding tokens pointer_of escaped_all
read_back [] = refl
read_back (t ∷ ts) = ap unescape_all (segments_pointer t ts) ∙ unescape_all_lem (t ∷ ts)

-- Read, then written

data NoSlash : Text → Type 0 where
  none : NoSlash []
  more : {c : ℕ} {t : Text} → eqb c 47 ≡ false → NoSlash t → NoSlash (c ∷ t)

data AllNoSlash : List Text → Type 0 where
  none : AllNoSlash []
  more : {t : Text} {ts : List Text} → NoSlash t → AllNoSlash ts → AllNoSlash (t ∷ ts)

prepend_no_slash : (c : ℕ) (ts : List Text) → eqb c 47 ≡ false → AllNoSlash ts → AllNoSlash (prepend c ts)
unfolding prepend
prepend_no_slash c [] h none = more (more h none) none
prepend_no_slash c (t ∷ ts) h (more n a) = more (more h n) a

segments_no_slash : (s : Text) → AllNoSlash (segments s)
unfolding segments
segments_no_slash [] = more none none
segments_no_slash (c ∷ s) = go (eqb c 47) refl (segments_no_slash s)
  where
    go : (b : Bool) → eqb c 47 ≡ b → AllNoSlash (segments s) → AllNoSlash (if b then [] ∷ segments s else prepend c (segments s))
    go true q ih = more none ih
    go false q ih = prepend_no_slash c (segments s) q ih

-- texts with a slash before each
joined : List Text → Text
joined [] = []
joined (t ∷ ts) = 47 ∷ (t ++ joined ts)

joined_prepend : (c : ℕ) (s : Text) (ts : List Text) → joined ts ≡ 47 ∷ s → joined (prepend c ts) ≡ 47 ∷ c ∷ s
unfolding joined prepend
joined_prepend c s [] h = cc
joined_prepend c s (t ∷ ts) h = let rest : t ++ joined ts ≡ s = cc in rw rest

joined_segments : (s : Text) → joined (segments s) ≡ 47 ∷ s
unfolding joined segments
joined_segments [] = refl
joined_segments (c ∷ s) = go (eqb c 47) refl (joined_segments s)
  where
    go : (b : Bool) → eqb c 47 ≡ b → joined (segments s) ≡ 47 ∷ s → joined (if b then [] ∷ segments s else prepend c (segments s)) ≡ 47 ∷ c ∷ s
    go true q ih = rw (ih, eqb-true c 47 q)
    go false q ih = joined_prepend c s (segments s) ih

-- what was read so far: a `~` before, or none
pending : Bool → Text → Text
pending true t = 126 ∷ t
pending false t = t

escape_plain : (c : ℕ) → eqb c 126 ≡ false → eqb c 47 ≡ false → escape_character c ≡ c ∷ []
unfolding escape_character
escape_plain c q p = rw (q, p)

escape-tilde : (c d : ℕ) → tilde c ≡ ok d → escape_character d ≡ 126 ∷ c ∷ []
unfolding tilde escape_character ascii
escape-tilde c d h = go (eqb c 48) (eqb c 49) refl refl h
  where
    go : (z o : Bool) → eqb c 48 ≡ z → eqb c 49 ≡ o → (if z then ok 126 else if o then ok 47 else refused 10 0) ≡ ok d →
        escape_character d ≡ 126 ∷ c ∷ []
    go true o q r h = let same : 126 ≡ d = cc in rw (← same, eqb-true c 48 q)
    go false true q r h = let same : 47 ≡ d = cc in rw (← same, eqb-true c 49 r)
    go false false q r h = absurd (refused≢ok h)

escape-unescape : (escaped : Bool) (t u : Text) → NoSlash t → unescape escaped t ≡ ok u → escape_token u ≡ pending escaped t
unfolding unescape pending escape_token
escape-unescape false [] u n h = let same : [] ≡ u = cc in rw (← same)
escape-unescape true [] u n h = absurd (refused≢ok h)
escape-unescape false (c ∷ t) u (more q n) h = go (eqb c 126) refl h (escape-unescape true t u n) (λ v. escape-unescape false t v n)
  where
    go : (b : Bool) → eqb c 126 ≡ b → (if b then unescape true t else (unescape false t >>= λ v. ok (c ∷ v))) ≡ ok u →
        (unescape true t ≡ ok u → escape_token u ≡ 126 ∷ t) → ((v : Text) → unescape false t ≡ ok v → escape_token v ≡ t) → escape_token u ≡ c ∷ t
    go true r h after_tilde_lem after-plain = rw (eqb-true c 126 r) (after_tilde_lem h)
    go false r h after_tilde_lem after-plain =
        let (v, e, i) = both_ok (unescape false t) _ u h in
        let same : c ∷ v ≡ u = cc in
        rw (← same, escape_plain c r q) (ap (◌∷◌ c) (after-plain v e))
escape-unescape true (c ∷ t) u (more q n) h =
    let (d, e, i) = both_ok (tilde c) _ u h in
    let (v, f, j) = both_ok (unescape false t) _ u i in
    let same : d ∷ v ≡ u = cc in
    rw (← same, escape-tilde c d e, escape-unescape false t v n f)

pointer_unescape : (ss : List Text) (ts : Tokens) → AllNoSlash ss → unescape_all ss ≡ ok ts → pointer_of ts ≡ joined ss
unfolding unescape_all pointer_of joined pending
pointer_unescape [] ts a h = let same : [] ≡ ts = cc in rw (← same)
pointer_unescape (s ∷ ss) ts (more n a) h =
    let (u, e, i) = both_ok (unescape false s) _ ts h in
    let (us, f, j) = both_ok (unescape_all ss) _ ts i in
    let same : u ∷ us ≡ ts = cc in
    rw (← same, escape-unescape false s u n e, pointer_unescape ss us a f)

written_so : (p : Text) (ts : Tokens) → tokens p ≡ ok ts → pointer_of ts ≡ p
unfolding tokens pointer_of
written_so [] ts h = let same : [] ≡ ts = cc in rw (← same)
written_so (c ∷ s) ts h = go (eqb c 47) refl h
  where
    go : (b : Bool) → eqb c 47 ≡ b → (if b then unescape_all (segments s) else refused 10 0) ≡ ok ts → pointer_of ts ≡ c ∷ s
    go true q h = pointer_unescape (segments s) ts (segments_no_slash s) h ∙ joined_segments s ∙ ap (λ d. d ∷ s) (sym (eqb-true c 47 q))
    go false q h = absurd (refused≢ok h)

pub pointers : PointersStatement
pointers = record { read_back = read_back; written_so = written_so }
