use Rattle.std.proofs.Common.{◌≡◌, None, Some, subst, ap, ◌∙◌}
use Rattle.std.proofs.lemmas.Result.{err_from_is_err_and}
use Rattle.lang_base.specs.Refused.{IfRefused}
use Rattle.decl_headers.specs.First.{class_named, first_faults, parents_in}
use Rattle.decl_headers.specs.Passes.{first_of}
use Rattle.decl_headers.proofs.Gathered.{made_checked, refused_checked, refused_first}
use Rattle.decl_headers.proofs.gather.headers.Goals as goal

pub returns-in_err-linked-clause-refused : goal.returns-in_err-linked-clause-refused
returns-in_err-linked-clause-refused c =
    let p = err_from_is_err_and c.from_residual.result c.from_residual.ensures.1 in
    let stop = c.in_err-linked.field-0.0 in
    rw (p.1, p.2) (refused_first c.args.program.now stop (subst (λ classes. IfRefused stop (λ fault. first_of (first_faults classes) ≡ Some fault)) c.as_slice.ensures c.in_err-linked.ensures.fault))

pub of_linked-requires-clause-parents : goal.of_linked-requires-clause-parents
of_linked-requires-clause-parents c = c.in_ok-linked.ensures.parents ∙ ap parents_in c.as_slice.ensures

pub of_linked-requires-clause-first : goal.of_linked-requires-clause-first
of_linked-requires-clause-first c = subst (λ classes. first_of (first_faults classes) ≡ None) c.as_slice.ensures c.in_ok-linked.ensures.accepted

pub of_linked-requires-clause-named : goal.of_linked-requires-clause-named
of_linked-requires-clause-named c = λ name. c.in_ok-linked.ensures.named name ∙ ap (λ classes. class_named classes name) c.as_slice.ensures

pub returns-clause-made : goal.returns-clause-made
returns-clause-made c =
    let first = subst (λ classes. first_of (first_faults classes) ≡ None) c.as_slice.ensures c.in_ok-linked.ensures.accepted in
    made_checked c.of_linked.result c.args.program.now c.requires first c.of_linked.ensures.accepted c.of_linked.ensures.made

pub returns-clause-refused : goal.returns-clause-refused
returns-clause-refused c =
    let first = subst (λ classes. first_of (first_faults classes) ≡ None) c.as_slice.ensures c.in_ok-linked.ensures.accepted in
    refused_checked c.of_linked.result c.args.program.now c.requires first c.of_linked.ensures.fault
