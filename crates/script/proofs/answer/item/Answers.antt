use Rattle.std.proofs.Common.{ap, ◌∙◌}
use Rattle.codec.specs.Ident.{network_type}
use Rattle.text.proofs.DraftLaws.{adds_then, adds_as}
use Rattle.text.specs.Draft.{field_text}
use Rattle.script.specs.Answer.{item_text}
use Rattle.script.proofs.answer.item.Goals as goal

pub returns : goal.returns
unfolding item_text
returns c =
    let k = c.from.ensures ∙ c.from-kind.ensures.is ∙ ap network_type c.kind_of.ensures in
    adds_then (adds_then (adds_then (adds_then (adds_as c.field.ensures (ap field_text k)) (adds_as c.field-2.ensures (ap field_text c.from-2.ensures))) c.state.ensures) c.ident.ensures) c.load.ensures
