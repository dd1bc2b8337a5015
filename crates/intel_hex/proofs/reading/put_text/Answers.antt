use Rattle.std.proofs.Common.{◌≡◌, ◌+◌, ◌*◌, ◌∙◌, arith}
use Rattle.intel_hex.specs.Reading.{count, data_of, line_length}
use Rattle.intel_hex.proofs.LineLaws.{told_some, width_is}
use Rattle.intel_hex.proofs.ReadLaws.{some_here, none_here, pouring_starts, line-lies, count_told, end_told, pouring_last, pouring_on, pouring_missing}
use Rattle.intel_hex.proofs.reading.put_text.Goals as goal

pub loop-rest-init : goal.loop-rest-init
loop-rest-init c = pouring_starts _ c.requires

pub hex_byte-requires : goal.hex_byte-requires
hex_byte-requires c = omega (arith, line-lies c.loop-rest.invariant (some_here _ c.loop-rest-test.ensures))

pub unwrap-requires : goal.unwrap-requires
unwrap-requires c = told_some _ _ c.hex_byte.ensures (count_told c.loop-rest.invariant (some_here _ c.loop-rest-test.ensures))

pub returns-then-n-eq0 : goal.returns-then-n-eq0
unfolding count
returns-then-n-eq0 c =
    let told = rw c.unwrap.ensures at c.hex_byte.ensures in
    pouring_last c.loop-rest.invariant (some_here _ c.loop-rest-test.ensures) (omega (arith, told.1, c.from-n.ensures))

pub put_data-end-requires : goal.put_data-end-requires
unfolding count
put_data-end-requires c =
    let told = rw c.unwrap.ensures at c.hex_byte.ensures in
    let n : c.from-n.result ≡ count c.loop-rest.rest.now = c.from-n.ensures ∙ told.1 in
    let p = pouring_on c.loop-rest.invariant (some_here _ c.loop-rest-test.ensures) (λ e. c.if-n-eq0.false (n ∙ e)) in
    (omega (arith, p.room, n), rw n p.hex, omega (arith, p.few, n))

pub ending-requires : goal.ending-requires
unfolding count
ending-requires c =
    let told = rw c.unwrap.ensures at c.hex_byte.ensures in
    let n : c.from-n.result ≡ count c.loop-rest.rest.now = c.from-n.ensures ∙ told.1 in
    let p = pouring_on c.loop-rest.invariant (some_here _ c.loop-rest-test.ensures) (λ e. c.if-n-eq0.false (n ∙ e)) in
    omega (arith, p.room, n)

pub unwrap-requires-in-loop-rest : goal.unwrap-requires-in-loop-rest
unfolding count
unwrap-requires-in-loop-rest c =
    let told = rw c.unwrap.ensures at c.hex_byte.ensures in
    let n : c.from-n.result ≡ count c.loop-rest.rest.now = c.from-n.ensures ∙ told.1 in
    told_some _ _ c.ending.ensures (rw n (end_told c.loop-rest.invariant (some_here _ c.loop-rest-test.ensures)))

pub slice_bounds-rest-count : goal.slice_bounds-rest-count
unfolding count
slice_bounds-rest-count c =
    let told = rw c.unwrap.ensures at c.hex_byte.ensures in
    let n : c.from-n.result ≡ count c.loop-rest.rest.now = c.from-n.ensures ∙ told.1 in
    let p = pouring_on c.loop-rest.invariant (some_here _ c.loop-rest-test.ensures) (λ e. c.if-n-eq0.false (n ∙ e)) in
    let ends = rw c.unwrap-in-loop-rest.ensures at c.ending.ensures in
    let width : 2 * c.from-n.result + 11 + c.unwrap-in-loop-rest.result ≡ line_length c.loop-rest.rest.now =
    width_is c.loop-rest.rest.now n ends.1 in
    omega (arith, p.far, width)

pub slice_bounds-rest-start : goal.slice_bounds-rest-start
unfolding count
slice_bounds-rest-start c =
    let told = rw c.unwrap.ensures at c.hex_byte.ensures in
    let n : c.from-n.result ≡ count c.loop-rest.rest.now = c.from-n.ensures ∙ told.1 in
    let p = pouring_on c.loop-rest.invariant (some_here _ c.loop-rest-test.ensures) (λ e. c.if-n-eq0.false (n ∙ e)) in
    let ends = rw c.unwrap-in-loop-rest.ensures at c.ending.ensures in
    let width : 2 * c.from-n.result + 11 + c.unwrap-in-loop-rest.result ≡ line_length c.loop-rest.rest.now =
    width_is c.loop-rest.rest.now n ends.1 in
    omega (arith, p.far, width)

pub loop-rest-preserved : goal.loop-rest-preserved
unfolding count data_of
loop-rest-preserved c =
    let told = rw c.unwrap.ensures at c.hex_byte.ensures in
    let n : c.from-n.result ≡ count c.loop-rest.rest.now = c.from-n.ensures ∙ told.1 in
    let p = pouring_on c.loop-rest.invariant (some_here _ c.loop-rest-test.ensures) (λ e. c.if-n-eq0.false (n ∙ e)) in
    let ends = rw c.unwrap-in-loop-rest.ensures at c.ending.ensures in
    let width : 2 * c.from-n.result + 11 + c.unwrap-in-loop-rest.result ≡ line_length c.loop-rest.rest.now =
    width_is c.loop-rest.rest.now n ends.1 in
    rw width (p.next (rw n at c.put_data-end.ensures))

pub returns : goal.returns
returns c = absurd (pouring_missing c.loop-rest.invariant (none_here _ c.loop-rest-test.ensures))
