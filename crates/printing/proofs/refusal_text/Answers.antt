-- `refusal_text` meets its contract: each byte goes behind the last.
use Rattle.std.proofs.Common.{[], ◌∷◌, sym, ◌∙◌}
use Rattle.std.specs.Fmt.{decimal}
use Rattle.printing.specs.Printing.{letter_r, one_blank, line_feed, refusal_line}
use Rattle.texts.specs.Texts.{longer, text_of}
use Rattle.texts.proofs.Longer.{longer-append, longer-by}
use Rattle.printing.proofs.refusal_text.Goals as goal

pub returns : goal.returns
returns c =
    let n = c.args.n in
    let start = longer (longer (text_of []) letter_r) one_blank in
    simp (c.with-2.ensures, c.with_decimal.ensures, c.with-head.ensures, c.with.ensures, c.empty.ensures)
    (sym (longer-append (decimal n) (line_feed ∷ []) start) ∙ longer-by [] (refusal_line n))
