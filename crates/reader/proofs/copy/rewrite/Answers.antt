use Rattle.std.proofs.Common.{sym, arith}
use Rattle.std.proofs.lemmas.Result.{err_from_is_err_and}
use Rattle.codec.proofs.Stands.{bytes_of}
use Rattle.reader.proofs.FrameLaws.{accepted, rewrite_done, rewrite_small, rewrite_refused}
use Rattle.reader.proofs.copy.rewrite.Goals as goal

pub returns-in_err-header-clause-value : goal.returns-in_err-header-clause-value
returns-in_err-header-clause-value c =
    let p = err_from_is_err_and c.from_residual.result c.from_residual.ensures.1 in
    rw (p.1, p.2) (rewrite_refused _ _ (sym c.in_err-header.ensures)).0

pub returns-in_err-header-clause-out_after : goal.returns-in_err-header-clause-out_after
returns-in_err-header-clause-out_after c = (rewrite_refused _ _ (sym c.in_err-header.ensures)).1

pub returns-then-out-frame-clause-value : goal.returns-then-out-frame-clause-value
returns-then-out-frame-clause-value c = (rewrite_small _ _ (sym c.in_ok-header.ensures) c.if-out-frame.true).0

pub returns-then-out-frame-clause-out_after : goal.returns-then-out-frame-clause-out_after
returns-then-out-frame-clause-out_after c = (rewrite_small _ _ (sym c.in_ok-header.ensures) c.if-out-frame.true).1

pub rewrite_items-requires-clause-clean : goal.rewrite_items-requires-clause-clean
rewrite_items-requires-clause-clean c = (accepted _ (sym c.in_ok-header.ensures)).1

pub returns-clause-value : goal.returns-clause-value
returns-clause-value c =
    (rewrite_done _ (bytes_of c.args.frame.now (λ i h. omega (arith, c.type_inv.frame i))) (sym c.in_ok-header.ensures) c.if-out-frame.false
    c.write_header.ensures c.rewrite_items.ensures).0

pub returns-clause-out_after : goal.returns-clause-out_after
returns-clause-out_after c =
    (rewrite_done _ (bytes_of c.args.frame.now (λ i h. omega (arith, c.type_inv.frame i))) (sym c.in_ok-header.ensures) c.if-out-frame.false
    c.write_header.ensures c.rewrite_items.ensures).1
