use Rattle.std.proofs.Common.{◌+◌, ◌<◌, length, arith}
use Rattle.intel_hex.proofs.LineLaws.{past_end, lent_length, lent_at, lent_first, no_bytes_left, feed_ends, return_ends, nothing_ends}
use Rattle.intel_hex.proofs.lines.ending.Goals as goal

pub returns-in-empty : goal.returns-in-empty
returns-in-empty c = no_bytes_left _ _ (omega (arith, lent_length c.args.t.now c.args.k))

pub returns-in-13 : goal.returns-in-13
returns-in-13 c =
    let t = c.args.t.now in
    let k = c.args.k in
    let room : k + 1 < length t = omega (arith, lent_length t k) in
    return_ends t k (omega arith) (omega (arith, lent_first t k (omega arith))) (omega (arith, lent_at t k 1 room))

pub returns-in-10 : goal.returns-in-10
returns-in-10 c =
    let t = c.args.t.now in
    let k = c.args.k in
    let room : k < length t = omega (arith, lent_length t k) in
    feed_ends t k room (omega (arith, lent_first t k (omega arith)))

pub returns-in-10-2 : goal.returns-in-10-2
returns-in-10-2 c =
    let t = c.args.t.now in
    let k = c.args.k in
    let room : k < length t = omega (arith, lent_length t k) in
    feed_ends t k room (omega (arith, lent_first t k (omega arith)))

pub returns-in_default : goal.returns-in_default
returns-in_default c =
    let t = c.args.t.now in
    let k = c.args.k in
    let room : k < length t = omega (arith, lent_length t k) in
    nothing_ends t k room (λ e. omega (arith, lent_first t k (omega arith))) (λ b d. omega (arith, past_end t (k + 1) (omega (arith, lent_length t k))))

pub returns-in_default-2 : goal.returns-in_default-2
returns-in_default-2 c =
    let t = c.args.t.now in
    let k = c.args.k in
    let room : k + 1 < length t = omega (arith, lent_length t k) in
    nothing_ends t k (omega arith) (λ e. omega (arith, lent_first t k (omega arith))) (λ b d. omega (arith, lent_at t k 1 room))

pub returns-in_default-3 : goal.returns-in_default-3
returns-in_default-3 c =
    let t = c.args.t.now in
    let k = c.args.k in
    let room : k + 1 < length t = omega (arith, lent_length t k) in
    nothing_ends t k (omega arith) (λ e. omega (arith, lent_first t k (omega arith))) (λ b d. omega (arith, lent_first t k (omega arith)))
