-- The superclasses of the typed program of an accepted text are those of its class table.
use Rattle.std.proofs.Common.{◌≡◌, ◌∙◌, ◌⊎◌, ℕ, zero, suc, ◌<◌, ◌==◌, Bool, true, false, cond, List, map, inl, inr, Option, None, Some, option_map, option_and_then, refl, sym, ap, subst}
use Rattle.std.proofs.lemmas.Bool.{eqb-true}
use Rattle.std.proofs.lemmas.Option.{slice_get_within}
use Rattle.std.specs.Prelude.{slice_get}
use Rattle.lang_base.specs.declared.region.Rpl.{Rpl}
use Rattle.lang_base.specs.declared.ty.Ty.{Ty}
use Rattle.lang_base.specs.Regions.{substituted}
use Rattle.lang_base.specs.Types.{PlainType, plain_type}
use Rattle.decl_headers.specs.declared.header.Header.{Header}
use Rattle.decl_headers.specs.Headers.{parent_of, class_count}
use Rattle.decl_headers.specs.Numbers.{as_number}
use Rattle.syntax_tree.specs.declared.class.Program.{Program}
use Rattle.syntax_tree.specs.Nd.{program_uses_nd}
use Rattle.decl_table.specs.declared.table.Table.{Table}
use Rattle.decl_table.specs.Table.{headers_of, supers_of, parent_type_of, parent_args_of, of_class_type, args_above}
use Rattle.lang_typed.specs.Plain.{PlainProgram, PlainClass, PlainParent}
use Rattle.lang_typed.specs.Scope.{Above, class_at}
use Rattle.lang_typed.specs.Scope.{parent_of as parent_in}
use Rattle.body_assembly.specs.Assembled.{PlainBody, class_of, parent_at, program_of}
use Rattle.sound_lemmas.specs.Accepted.{IsAccepted}
use Rattle.sound_lemmas.proofs.Assembled.{number_is}
use Rattle.sound_lemmas.proofs.Lists.{some_same, and_then_there, map_there, made_there, made_is}
use Rattle.sound_bodies.specs.Seen.{SupersAgree}
use Rattle.sound_bodies.proofs.table.Extending.{ParentSaid, parent_said, superclass_said}

module _ (program : Program) (table : Table) (bodies : List PlainBody) (accepted : IsAccepted program table bodies)
  where
    abbrev pub P : PlainProgram
    P = program_of table program.names (program_uses_nd program) bodies

    pub number : (c : ℕ) → c < class_count (headers_of table) → as_number c ≡ c
    number c l = number_is program table bodies accepted program.names (program_uses_nd program) c l

    -- a class of the table is there
    pub class_there : (c : ℕ) → c < class_count (headers_of table) → class_at P c ≡ Some (class_of table c)
    class_there c l = made_there (class_of table) (class_count (headers_of table)) c l

    pub class_is : (c : ℕ) (k : PlainClass) → class_at P c ≡ Some k → (c < class_count (headers_of table)) × (class_of table c ≡ k)
    class_is c k e = made_is (class_of table) (class_count (headers_of table)) c k e

    -- with the superclass that the table gives it
    pub parent_there : (c above : ℕ) → parent_of (headers_of table) c ≡ Some above → parent_in P c ≡ Some (record { class = above; args = parent_args_of table c })
    parent_there c above e =
        let h = and_then_there (λ (header : Header). header.parent) (slice_get (headers_of table).rows c) above e in
        let l = slice_get_within (headers_of table).rows c h.0 h.1 in
        ap (option_and_then (λ (k : PlainClass). k.parent)) (class_there c l) ∙ ap (parent_at table) (number c l) ∙ ap (option_map (λ (z : ℕ). record { class = z; args = parent_args_of table c })) e

    pub parent_is : (c : ℕ) (p : PlainParent) → parent_in P c ≡ Some p → (c < class_count (headers_of table)) × (parent_of (headers_of table) c ≡ Some p.class) × (p.args ≡ parent_args_of table c)
    parent_is c p e =
        let w = and_then_there (λ (k : PlainClass). k.parent) (class_at P c) p e in
        let k = class_is c w.0 w.1 in
        let own : parent_at table c ≡ Some p = ap (parent_at table) (sym (number c k.0)) ∙ ap (λ (k : PlainClass). k.parent) k.1 ∙ w.2 in
        let a = map_there (λ (above : ℕ). record { class = above; args = parent_args_of table c }) (parent_of (headers_of table) c) p own in
        (k.0, a.1 ∙ ap (λ (q : PlainParent). Some q.class) a.2, ap (λ (q : PlainParent). q.args) (sym a.2))

    pub supers_agree : SupersAgree P (supers_of table)
    supers_agree c t e =
        let s = superclass_said program table accepted.rows c t e in
        (record { class = s.parent; args = parent_args_of table c }, parent_there c s.parent s.above, s.is)

    -- the region arguments of a supertype: those of the class itself, or those that its superclass gives
    pub record Higher (n at : ℕ) (args owned : List Rpl) (owner : ℕ) : Type 0 where
      pub said : (t : PlainType) × ParentSaid table at t
      pub rest : args_above table n said.1.parent (map (substituted args) (parent_args_of table at)) owner ≡ Some owned

    pub args_step : (n at : ℕ) (args owned : List Rpl) (owner : ℕ) → args_above table (suc n) at args owner ≡ Some owned → ((at ≡ owner) × (args ≡ owned)) ⊎ Higher n at args owned owner
    args_step n at args owned owner h = by (at == owner) refl (parent_type_of table at) refl h
      where
        by : (b : Bool) → (at == owner) ≡ b → (o : Option Ty) → parent_type_of table at ≡ o →
            cond b (Some args) (option_and_then (of_class_type (λ above paths. args_above table n above (map (substituted args) paths) owner)) (option_map plain_type o)) ≡ Some owned →
            ((at ≡ owner) × (args ≡ owned)) ⊎ Higher n at args owned owner
        by true is o e h = inl (eqb-true at owner is, some_same h)
        by false is None e h = cc
        by false is (Some t) e h =
            let s = parent_said program table accepted.rows at t e in
            inr (record {
              said = (plain_type t, s);
              rest = ap (of_class_type (λ above paths. args_above table n above (map (substituted args) paths) owner)) (sym s.is) ∙ h;
            })

    pub above_of : (n at : ℕ) (args owned : List Rpl) (owner : ℕ) → args_above table n at args owner ≡ Some owned → Above P at args owner owned
    above_of zero at args owned owner h = cc
    above_of (suc n) at args owned owner h =
        elim (args_step n at args owned owner h) [
          | inl here ↦ subst (λ c. Above P at args c owned) here.0 (subst (Above P at args at) here.1 Above.itself)
          | inr up ↦ Above.through_parent (parent_there at up.said.1.parent up.said.1.above) (above_of n up.said.1.parent (map (substituted args) (parent_args_of table at)) owned owner up.rest)
        ]
