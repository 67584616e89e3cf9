-- What expressions and statements do by the judgement is what the inference takes them to do.
use Rattle.std.proofs.Common.{◌≡◌, ◌∙◌, ◌+◌, ℕ, List, ◌∷◌, ◌++◌, refl, ap, sym}
use Rattle.std.specs.Prelude.{All}
use Rattle.std.proofs.lemmas.List.Elements.{All-append, All-nil}
use Rattle.lang_base.specs.declared.region.Rpl.{Rpl}
use Rattle.lang_base.specs.Types.{PlainType, int}
use Rattle.lang_typed.specs.declared.stmt.Forking.TheVariants.{Deterministic}
use Rattle.lang_typed.specs.Plain.{PlainProgram, TypedExpr, type_of, TypedExprs, Source, TypedStmt, TypedStmts, TypedBranches, no_stmts, more_stmts}
use Rattle.lang_typed.specs.Scope.{Scope, constant, with_local, with_regions, in_atomic_block, in_loop_branch, in_branch}
use Rattle.lang_typed.specs.Effects.{Own, does, uses, reads, writes, after_block, after_branches, outside_variable, outside_regions, after_parts}
use Rattle.lang_typed.specs.Statements.{IsVariable, Cuts, cuts_array, cuts_part, with_part, joined, all_copies, BranchesPass, no_branch, one_branch, Passes, AllPass, store, store_field, store_element, store_part, perform, nested, choice, choice_else, while_loop, return_nothing, return_value, print_int, print_boolean, print_text, atomic, cobegin, foreach, foreach_parts, no_more, then', declare, declare_regions}
use Rattle.lang_typed.specs.Typing.{Has, literal_int, literal_boolean, literal_null, read_local, read_field, read_element, length_of_array, call_method, create_object, construct_object, make_array, negative, negation, operation, conjunction, disjunction, length_of_part, read_part}
use Rattle.lang_typed.specs.Typing.{Fit as fit}
use Rattle.lang_typed.specs.Typing.{Fit}
use Rattle.body_infer.specs.Doing.{done_by, done_by_all, done_by_source, part_of, with_parts, effects_of, effects_of_all}
use Rattle.body_infer.proofs.Alike.{both_same, with_same, effects_alike, all_alike}
use Rattle.sound_infer.proofs.Chains.{Falls}
use Rattle.sound_infer.proofs.Forms.{field_is, element_is, local_is, callee_is, nothing_made, constructor_is, alone_does, declares_nothing, then_does, each_branch, branches_join}
use Rattle.sound_infer.proofs.Scopes.{agree_same, agree_regions, agree_block, agree_loop, agree_branch, agree_parts, siblings_variables}

module _ (P : PlainProgram) (rank : ℕ → ℕ) (falls : Falls P rank) where
  mutual
    pub done_is : {L : Scope} {e : TypedExpr} {E : List Own} → Has P L e E → done_by P L e ≡ E
    done_is (literal_int fits) = refl
    done_is literal_boolean = refl
    done_is literal_null = refl
    done_is (read_local h) = refl
    done_is (read_field {e = e} {c = c} {k = k} {args = args} {f = f} h ty fe rd eq) = both_same (done_is h) (field_is P (type_of e) c k args f (λ a. does (reads a)) ty fe)
    done_is {L} (read_element {a = a} {i = i} {t = t} {rpl = rpl} {named = named} ha ty hi ti rg eq) =
        both_same (done_is ha) (both_same (done_is hi) (element_is L (type_of a) t rpl named i (λ b. does (reads b)) ty))
    done_is (length_of_array h ty) = done_is h
    done_is (call_method {e = e} {c = c} {r = r} {n = n} {args = args} {owned = owned} {regions = regions} {m = m} h ty rw mb ab ga fu kn rd ft nd_free eq) =
        both_same (done_is h) (both_same (all_done_is ft) (callee_is P rank falls (type_of e) c r n args owned regions m ty rw mb ab))
    done_is (create_object {c = c} {args = args} {k = k} is ga fu none) = nothing_made P c args k is none
    done_is (construct_object {c = c} {n = n} {args = args} {k = k} {m = m} is ga fu e mb ft nd_free) = both_same (all_done_is ft) (constructor_is P c n args k m is e mb)
    done_is (make_array gt fu h ty) = done_is h
    done_is (negative h ty) = done_is h
    done_is (negation h ty) = done_is h
    done_is (operation ha hb ops eq) = both_same (done_is ha) (done_is hb)
    done_is (conjunction ha ta hb tb) = both_same (done_is ha) (done_is hb)
    done_is (disjunction ha ta hb tb) = both_same (done_is ha) (done_is hb)
    done_is (length_of_part e) = refl
    done_is {L} (read_part {k = k} {t = t} {a = a} e h ty) = both_same (done_is h) (local_is (L.local k) t a (λ b. uses k (reads b)) e)

    pub all_done_is : {L : Scope} {es : TypedExprs} {ts : List PlainType} {E : List Own} → Fit P L es ts E → done_by_all P L es ≡ E
    all_done_is fit.none = refl
    all_done_is (fit.one_more h sub rest) = both_same (done_is h) (all_done_is rest)

  pub source_is : {L : Scope} {source : Source} {t : PlainType} {a : Rpl} {E : List Own} → Cuts P L source t a E → done_by_source P L source ≡ E
  source_is (cuts_array h ty full) = done_is h
  source_is (cuts_part e) = refl

  -- a part of an `if` or of a loop
  pub part_does : (L : Scope) (s : TypedStmt) (E : List Own) → effects_of_all P L (more_stmts s no_stmts) ≡ E → effects_of P L s ≡ E
  part_does L s E e = sym (alone_does P L s) ∙ e

  mutual
    pub effects_is : {L : Scope} {s : TypedStmt} {E : List Own} → Passes P L s E → effects_of P L s ≡ E
    effects_is (store lx h sub) = done_is h
    effects_is (store_field {o = o} {c = c} {k = k} {args = args} {f = f} ho ty fe kn he sub) =
        both_same (done_is ho) (both_same (done_is he) (field_is P (type_of o) c k args f (λ a. does (writes a)) ty fe))
    effects_is {L} (store_element {a = a} {i = i} {t = t} {rpl = rpl} {named = named} ha ty hi ti rg he sub) =
        both_same (done_is ha) (both_same (done_is hi) (both_same (done_is he) (element_is L (type_of a) t rpl named i (λ b. does (writes b)) ty)))
    effects_is {L} (store_part {k = k} {t = t} {a = a} e hi ti he sub) = both_same (done_is hi) (both_same (done_is he) (local_is (L.local k) t a (λ b. uses k (writes b)) e))
    effects_is (perform ip h) = done_is h
    effects_is (nested p) = all_is p
    effects_is {L} (choice {s = s} {F = F} h ty p) = both_same (done_is h) (part_does L s F (all_is p))
    effects_is {L} (choice_else {s = s} {t = t} {F = F} {G = G} h ty p r) = both_same (done_is h) (both_same (part_does L s F (all_is p)) (part_does L t G (all_is r)))
    effects_is {L} (while_loop {s = s} {F = F} h ty p) = both_same (done_is h) (part_does L s F (all_is p))
    effects_is (return_nothing e) = refl
    effects_is (return_value e h sub) = done_is h
    effects_is (print_int h ty) = done_is h
    effects_is (print_boolean h ty) = done_is h
    effects_is print_text = refl
    effects_is {L} (atomic {ss = ss} p se) = ap after_block (sym (all_alike P (in_atomic_block L) L (agree_block L L (agree_same L)) ss) ∙ all_is p)
    effects_is {L} (cobegin {forking = forking} {bs = bs} nd_free p nc) = ap (after_branches forking) (sym (branches_join P L bs) ∙ ap joined (branches_is p (All-nil (IsVariable L))))
    effects_is {L} (foreach {forking = forking} {x = x} {s = s} {G = G} nd_free hs ts hc tc free p ic) =
        let K = with_local x (constant int) (in_loop_branch L) in
        let M = with_local x (constant int) L in
        both_same (done_is hs) (both_same (done_is hc) (ap (λ E. outside_variable x (after_branches forking E))
        (sym (effects_alike P K M (with_same (in_loop_branch L) L x (constant int) (agree_loop L L (agree_same L))) s) ∙ part_does K s G (all_is p))))
    effects_is {L} (foreach_parts {k = k} {source = source} {s = s} {t = t} {a = a} {G = G} cu hc tc free p ic lc) =
        let K = with_part k t a (in_loop_branch L) in
        let M = with_parts k (part_of L source) L in
        both_same (source_is cu) (both_same (done_is hc) (ap (λ E. outside_variable (k + 4) (after_branches Deterministic (after_parts k source E)))
        (sym (effects_alike P K M (agree_parts L L k t a cu free (agree_same L)) s) ∙ part_does K s G (all_is p))))

    pub all_is : {L : Scope} {ss : TypedStmts} {E : List Own} → AllPass P L ss E → effects_of_all P L ss ≡ E
    all_is no_more = refl
    all_is {L} (then' {s = s} {ss = ss} p c rest) = then_does P L s ss (declares_nothing p) ∙ both_same (effects_is p) (all_is rest)
    all_is (declare {x = x} free gt h sub rest) = both_same (done_is h) (ap (outside_variable x) (all_is rest))
    all_is {L} (declare_regions {rs = rs} {ss = ss} fr rest) =
        ap (outside_regions rs) (sym (all_alike P (with_regions rs L) L (agree_regions L L rs (agree_same L)) ss) ∙ all_is rest)

    pub branches_is : {L : Scope} {others : List ℕ} {bs : TypedBranches} {Es : List (List Own)} → BranchesPass P L others bs Es → All (IsVariable L) others → each_branch P L bs ≡ Es
    branches_is no_branch v = refl
    branches_is {L} {others} (one_branch {copies = copies} {s = s} {bs = bs} {E = E} cv ca p rest) v =
        let K = in_branch copies (others ++ all_copies bs) L in
        let first = sym (effects_alike P K L (agree_branch L L copies (others ++ all_copies bs) (siblings_variables others v rest) (agree_same L)) s) ∙ part_does K s E (all_is p) in
        ap (λ F. F ∷ each_branch P L bs) first ∙ ap (λ Fs. E ∷ Fs) (branches_is rest (All-append (IsVariable L) others copies v cv))
