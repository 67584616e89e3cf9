-- What a written type tells, over plain variables.
use Rattle.std.proofs.Common.{◌≡◌, ◌∙◌, ◌++◌, List, [], ◌∷◌, None, Some, ap, sym, subst}
use Rattle.lang_base.specs.declared.refusal.Refusal.{Refusal}
use Rattle.lang_base.specs.declared.refusal.Stop.{Stop}
use Rattle.lang_base.specs.Refused.{IfRefused}
use Rattle.decl_headers.specs.declared.faults.Faults.{Faults}
use Rattle.decl_headers.specs.Faults.{all_noted}
use Rattle.syntax_tree.specs.declared.region.Suffix.{Suffix}
use Rattle.syntax_tree.specs.declared.region.TypeTree.{TypeTree}
use Rattle.decl_resolve.specs.declared.base.ReadType.{ReadType}
use Rattle.decl_resolve.specs.declared.scope.Site.{Site}
use Rattle.decl_resolve.specs.Index.{PlainIndex}
use Rattle.decl_resolve.specs.Scopes.{PlainScope}
use Rattle.decl_resolve.specs.Telling.{reported_at, parts_reported, parts_noted}
use Rattle.decl_resolve.specs.Written.{type_index, type_parts, type_read, judged_faults, type_faults}
use Rattle.decl_resolve.proofs.Reported.{reported_one, parts_later, refused_first}

-- the first parts tell none, and what the last one leaves is reported
settled_parts : (at : Site) (old mid new : Faults) (parts : List (List Refusal)) (last : List Refusal) → parts_reported at old parts ≡ None → mid ≡ parts_noted old parts → new ≡ all_noted mid last → parts_reported at old (parts ++ last ∷ []) ≡ reported_at at new
settled_parts at old mid new parts last none is step =
    parts_later at old parts (last ∷ []) none ∙ ap (λ z. parts_reported at z (last ∷ [])) (sym is) ∙ reported_one at mid last ∙ ap (reported_at at) (sym step)

-- the index names of a type with these suffixes
abbrev with_names : TypeTree → List Suffix → PlainIndex
with_names tree suffixes = record (type_index tree) { suffixes = suffixes }

-- the faults of a type, where its suffixes and what is read of it are known by other names
all_faults : PlainScope → TypeTree → List Suffix → ReadType → List (List Refusal)
all_faults scope tree suffixes read =
    type_parts scope (with_names tree suffixes) tree.base ++ judged_faults scope (with_names tree suffixes) read tree.place ∷ []

named_faults : (scope : PlainScope) (tree : TypeTree) (suffixes : List Suffix) (read : ReadType) → suffixes ≡ tree.suffixes → read ≡ type_read scope (with_names tree suffixes) tree.base → all_faults scope tree suffixes read ≡ type_faults scope tree
unfolding all_faults
named_faults scope tree suffixes read same meant =
    ap (λ r. type_parts scope (with_names tree suffixes) tree.base ++ judged_faults scope (with_names tree suffixes) r tree.place ∷ []) meant
    ∙ ap (λ ss. type_parts scope (with_names tree ss) tree.base ++ judged_faults scope (with_names tree ss) (type_read scope (with_names tree ss) tree.base) tree.place ∷ []) same

module _ (scope : PlainScope) (tree : TypeTree) (suffixes : List Suffix) (same : suffixes ≡ tree.suffixes) (at : Site) (old : Faults) where
  pub type_reported : (mid new : Faults) (read : ReadType) → read ≡ type_read scope (record (type_index tree) { suffixes = suffixes }) tree.base → parts_reported at old (type_parts scope (record (type_index tree) { suffixes = suffixes }) tree.base) ≡ None → mid ≡ parts_noted old (type_parts scope (record (type_index tree) { suffixes = suffixes }) tree.base) → new ≡ all_noted mid (judged_faults scope (record (type_index tree) { suffixes = suffixes }) read tree.place) → parts_reported at old (type_faults scope tree) ≡ reported_at at new
  unfolding all_faults
  type_reported mid new read meant none is step =
      sym (ap (λ parts. parts_reported at old parts) (named_faults scope tree suffixes read same meant))
      ∙ settled_parts at old mid new (type_parts scope (with_names tree suffixes) tree.base) (judged_faults scope (with_names tree suffixes) read tree.place) none is step

  pub type_refused : (e : Stop) → IfRefused e (λ refusal. parts_reported at old (type_parts scope (record (type_index tree) { suffixes = suffixes }) tree.base) ≡ Some refusal) → IfRefused e (λ refusal. parts_reported at old (type_faults scope tree) ≡ Some refusal)
  type_refused e tells =
      let Reported : List Suffix → Type 0 = λ ss. IfRefused e (λ refusal. parts_reported at old (type_parts scope (with_names tree ss) tree.base) ≡ Some refusal) in
      refused_first e at old (type_parts scope (type_index tree) tree.base) (judged_faults scope (type_index tree) (type_read scope (type_index tree) tree.base) tree.place ∷ []) (subst Reported same tells)
