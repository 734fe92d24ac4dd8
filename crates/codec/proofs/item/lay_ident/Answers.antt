use Rattle.std.proofs.Common.{◌∙◌, sym, ap, [], ◌∷◌}
use Rattle.codec.specs.Ident.{ident_bytes, ident_ok}
use Rattle.codec.proofs.NumberLaws.{laid, laid_by}
use Rattle.codec.proofs.ItemLaws.{flexray_in}
use Rattle.codec.proofs.item.lay_ident.Goals as goal

pub flexray_front-requires-clause-channels_bound : goal.flexray_front-requires-clause-channels_bound
flexray_front-requires-clause-channels_bound c = (flexray_in _ _ _ (sym (ap ident_ok c.in-FlexRay.is) ∙ c.requires.ident_value)).1

pub flexray_front-requires-clause-slot_bound : goal.flexray_front-requires-clause-slot_bound
flexray_front-requires-clause-slot_bound c = (flexray_in _ _ _ (sym (ap ident_ok c.in-FlexRay.is) ∙ c.requires.ident_value)).3

pub returns-in-Can : goal.returns-in-Can
returns-in-Can c = laid_by c.put_be.ensures (ap ident_bytes c.in-Can.is) c.requires.ident_in_bounds

pub returns-in-Lin : goal.returns-in-Lin
returns-in-Lin c = laid _ [] (ap ident_bytes c.in-Lin.is) c.requires.ident_in_bounds

pub returns-in-FlexRay : goal.returns-in-FlexRay
returns-in-FlexRay c =
    laid c.flexray_front.result (c.low8.result ∷ c.in-FlexRay.cycle ∷ []) (cc (ap ident_bytes c.in-FlexRay.is)) c.requires.ident_in_bounds

pub returns-in-FlexRayError : goal.returns-in-FlexRayError
returns-in-FlexRayError c = laid c.error_front.result (0 ∷ 0 ∷ []) (cc (ap ident_bytes c.in-FlexRayError.is)) c.requires.ident_in_bounds
