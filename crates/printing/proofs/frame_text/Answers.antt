-- `frame_text` meets its contract: the bytes that the length names are the eight at most.
use Rattle.std.proofs.Common.{◌≡◌, ◌<◌, ◌/◌, ◌%◌, take, [], ◌∷◌, ap, sym, ◌∙◌, arith, rules}
use Rattle.std.proofs.lemmas.List.{take_min}
use Rattle.printing.specs.Printing.{frame_line, heading, line_feed, pairs}
use Rattle.texts.specs.Texts.{longer_by, text_of}
use Rattle.texts.proofs.Longer.{longer-append, longer-by}
use Rattle.printing.proofs.frame_text.Goals as goal

pub returns : goal.returns
returns c =
    let f = c.args.f in
    let small : f.identifier < 65536 = search rules in
    let first : f.identifier / 256 % 256 ≡ f.identifier / 256 = omega arith in
    let bytes = pairs (take f.length f.bytes) in
    let sent : pairs (take c.min-n.result c.as_slice-bytes.result.now) ≡ bytes = ap pairs (rw (c.min-n.ensures, c.as_slice-bytes.ensures, c.from.ensures) (take_min f.length f.bytes)) in
    simp (c.with-2.ensures, c.with_pairs.ensures, sent, c.with-heading.ensures, c.with_pair.ensures, c.with.ensures, c.empty.ensures, c.digit.ensures, c.to_le_bytes.ensures, first)
    (sym (longer-append bytes (line_feed ∷ []) (longer_by (heading f.identifier) (text_of []))) ∙ longer-by [] (frame_line f))
