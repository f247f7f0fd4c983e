-- `frame` meets its contract: behind the bytes that are used there are as many zeros as eight bytes leave.
use Rattle.std.proofs.Common.{rules, arith, ◌≡◌, sym, ap, ◌∙◌, ℕ, ◌+◌, ◌-◌, ◌≤◌, List, ◌++◌, length, take, drop, replicate}
use Rattle.std.proofs.lemmas.List.{take-replicate, drop-replicate}
use Rattle.std.proofs.Math.Seq.{take-append-add}
use Rattle.frames.proofs.frame.Goals as goal

abbrev zeros : List ℕ
zeros = replicate 8 0

left : (n : ℕ) → n ≤ 8 → drop n zeros ≡ take (8 - n) zeros
left n h = drop-replicate n 8 0 ∙ sym (take-replicate (8 - n) 8 0 (omega arith))

filled : (l : List ℕ) → length l ≤ 8 → l ++ drop (length l) zeros ≡ take 8 (l ++ zeros)
filled l h =
    let all : length l + (8 - length l) ≡ 8 = omega (arith, h) in
    ap (λ t. l ++ t) (left (length l) h) ∙ sym (take-append-add l zeros (8 - length l)) ∙ ap (λ n. take n (l ++ zeros)) all

pub returns : goal.returns
returns g c =
    let used = c.args.used in
    let n : length used ≡ g.row.N = search rules in
    let few : length used ≤ 8 = rw n c.requires in
    simp (c.copy_from_slice.ensures.after, sym n, filled used few)
