-- Faults noted part by part in a signature, where nothing is reported.
use Rattle.std.proofs.Common.{◌≡◌, ◌∙◌, List, [], ◌∷◌, ◌++◌, None, Some, refl, sym, ap, subst}
use Rattle.lang_base.specs.declared.refusal.Refusal.{Refusal}
use Rattle.lang_base.specs.declared.refusal.Stop.{Stop}
use Rattle.lang_base.specs.declared.refusal.Stop.TheVariants as stop
use Rattle.lang_base.specs.Refused.{IfRefused}
use Rattle.decl_headers.specs.declared.faults.Faults.{Faults}
use Rattle.decl_headers.specs.Faults.{all_noted}
use Rattle.decl_headers.proofs.Noting.{noted_append}
use Rattle.decl_resolve.specs.declared.scope.Site.{Site}
use Rattle.decl_resolve.specs.declared.scope.Site.TheVariants as site
use Rattle.decl_resolve.specs.Telling.{parts_noted, parts_reported}
use Rattle.decl_classes.specs.Signatures.{joined}

pub noted_parts : (faults : Faults) (parts : List (List Refusal)) → parts_noted faults parts ≡ all_noted faults (joined parts)
noted_parts faults [] = refl
noted_parts faults (part ∷ parts) = noted_parts (all_noted faults part) parts ∙ sym (noted_append faults part (joined parts))

none_in : (faults : Faults) (parts : List (List Refusal)) → parts_reported site.Signature faults parts ≡ None
none_in faults [] = refl
none_in faults (part ∷ parts) = none_in (all_noted faults part) parts

-- so no refusal comes of the parts
pub never_reported : (at : Site) (e : Stop) (refusal : Refusal) (faults : Faults) (parts : List (List Refusal)) → at ≡ site.Signature → e ≡ stop.Refused refusal → IfRefused e (λ reported. parts_reported at faults parts ≡ Some reported) → ⊥
never_reported at e refusal faults parts in_signature is tells =
    let Tells : Stop → Type 0 = λ s. IfRefused s (λ reported. parts_reported at faults parts ≡ Some reported) in
    let reported : parts_reported at faults parts ≡ Some refusal = subst Tells is tells in
    let none : parts_reported at faults parts ≡ None = ap (λ a. parts_reported a faults parts) in_signature ∙ none_in faults parts in
    cc (reported, none)

-- faults noted in two steps
pub noted_twice : (old mid new : Faults) (first second : List Refusal) → mid ≡ all_noted old first → new ≡ all_noted mid second → new ≡ all_noted old (first ++ second)
noted_twice old mid new first second one two = two ∙ ap (λ f. all_noted f second) one ∙ sym (noted_append old first second)

-- one step of faults that are noted one after the other
pub noted_next : (old new whole : Faults) (left first rest : List Refusal) → left ≡ first ++ rest → new ≡ all_noted old first → all_noted old left ≡ whole → all_noted new rest ≡ whole
noted_next old new whole left first rest is step before =
    ap (λ f. all_noted f rest) step ∙ sym (noted_append old first rest) ∙ ap (all_noted old) (sym is) ∙ before

pub ruleset parts = (noted_parts, never_reported)
