use Rattle.std.proofs.Common.{Err, sym, refl, ap, ◌∙◌, rules}
use Rattle.std.proofs.lemmas.Result.{err_from_is_err_and}
use Rattle.plan.proofs.Items.{said_of}
use Rattle.plan.proofs.Exactly.{read_said, parts_some, read_after, whole, more}
use Rattle.plan.proofs.plan.read.parse.Goals as goal

pub invariant_of-owners : goal.invariant_of-owners
invariant_of-owners c =
    let first = said_of 1 c.contents_line.result c.map_err.result _ _ _ 1 c.in_ok-contents.was c.map_err.ensures.cases (λ f e p. search rules) c.contents_line.ensures.is refl in
    let some = parts_some c.args.text.now c.if-text-gt8192.false _ _ first _ _ c.in_ok-partitions.ensures in
    rw c.deref.ensures.0 (record { some = some.0; few = some.1 })

pub returns-in_err-accelerators : goal.returns-in_err-accelerators
returns-in_err-accelerators c =
    let t = c.args.text.now in
    let first = said_of 1 c.contents_line.result c.map_err.result _ _ _ 1 c.in_ok-contents.was c.map_err.ensures.cases (λ f e p. search rules) c.contents_line.ensures.is refl in
    let p = err_from_is_err_and c.from_residual-in_err-accelerators.result c.from_residual-in_err-accelerators.ensures.1 in
    rw p.1 (ap Err p.2 ∙ read_after t c.if-text-gt8192.false _ _ first _ _ c.in_ok-partitions.ensures _ c.deref.ensures.0 refl _ c.in_err-accelerators.ensures)

pub returns-then-end-text : goal.returns-then-end-text
returns-then-end-text c =
    let t = c.args.text.now in
    let first = said_of 1 c.contents_line.result c.map_err.result _ _ _ 1 c.in_ok-contents.was c.map_err.ensures.cases (λ f e p. search rules) c.contents_line.ensures.is refl in
    more t c.in_ok-contents.contents _ _ _ c.if-end-text.true ∙ read_after t c.if-text-gt8192.false _ _ first _ _ c.in_ok-partitions.ensures _ c.deref.ensures.0 refl _ c.in_ok-accelerators.ensures

pub invariant_of-result : goal.invariant_of-result
invariant_of-result c =
    let t = c.args.text.now in
    let first = said_of 1 c.contents_line.result c.map_err.result _ _ _ 1 c.in_ok-contents.was c.map_err.ensures.cases (λ f e p. search rules) c.contents_line.ensures.is refl in
    let said = whole t c.in_ok-contents.contents c.in_ok-partitions.partitions.items _ _ c.if-end-text.false ∙ read_after t c.if-text-gt8192.false _ _ first _ _ c.in_ok-partitions.ensures _ c.deref.ensures.0 refl _ c.in_ok-accelerators.ensures in
    record { rules = (read_said t _ (sym said)).rules }

pub returns : goal.returns
returns c =
    let t = c.args.text.now in
    let first = said_of 1 c.contents_line.result c.map_err.result _ _ _ 1 c.in_ok-contents.was c.map_err.ensures.cases (λ f e p. search rules) c.contents_line.ensures.is refl in
    whole t c.in_ok-contents.contents c.in_ok-partitions.partitions.items _ _ c.if-end-text.false ∙ read_after t c.if-text-gt8192.false _ _ first _ _ c.in_ok-partitions.ensures _ c.deref.ensures.0 refl _ c.in_ok-accelerators.ensures
