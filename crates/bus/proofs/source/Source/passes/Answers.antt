use lib.Bits.{and_mask}
use Rattle.std.proofs.Common.{refl, sym, ap, inl, inr, ◌∙◌}
use Rattle.codec.specs.declared.ident.Ident.TheVariants as Ident
use Rattle.bus.specs.Source.{passes}
use Rattle.bus.proofs.BusLaws.{passes_alike, passes_none}
use Rattle.bus.proofs.source.Source.passes.Goals as goal
use Rattle.bus.proofs.source.Source.passes.Goals.{in-Can, in-Lin}

pub returns-in-FlexRay : goal.returns-in-FlexRay
returns-in-FlexRay c =
    let ps = c.args.self.places in
    c.slot_passes.ensures ∙ passes_alike ps _ _ (λ f. refl) ∙ sym (ap (passes ps) c.in-FlexRay.is)

pub returns-in-FlexRayError : goal.returns-in-FlexRayError
returns-in-FlexRayError c =
    let ps = c.args.self.places in
    sym (elim c.in-FlexRayError.is [
      | inl w ↦ ap (passes ps) w.1 ∙ passes_none ps _ (λ f. refl)
      | inr w ↦ ap (passes ps) w.1 ∙ passes_none ps _ (λ f. refl)
    ])

pub returns : goal.returns
returns c =
    let ps = c.args.self.places in
    c.key_passes.ensures
    ∙ elim c.match-id.branch [
      | in-Can w ↦ ap (λ k. passes ps (Ident.Can k)) w.key-is ∙ sym (ap (passes ps) w.in-Can.is)
      | in-Lin w ↦ ap (λ k. passes ps (Ident.Can k)) (w.key-is ∙ and_mask _ 6) ∙ passes_alike ps _ _ (λ f. refl) ∙ sym (ap (passes ps) w.in-Lin.is)
    ]
