-- The two bytes from the place on are the first two of what is left of the text there.
use Rattle.exact.proofs.Ground.{◌≡◌, ◌∙◌, ap, ap₂, ◌+◌, add-zero, get_or, get_or-drop}
use Rattle.text.specs.Reading.{number_of, number_at}
use Rattle.text.proofs.reading.number_at.Goals as goal

pub returns : goal.returns
unfolding number_at
returns c =
    let a = c.args in
    let text = a.text.now in
    let place : get_or text (a.at + 0) 0 ≡ get_or text a.at 0 = ap (λ k. get_or text k 0) (add-zero a.at) in
    rw (get_or-drop a.at text 0 0, get_or-drop a.at text 1 0, place)
    (c.number_of.ensures ∙ ap₂ number_of c.byte_at.ensures c.byte_at-2.ensures)
