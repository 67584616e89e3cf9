-- A body that passes does so too where members do less, with each atomic block entered by what it does then.
use Rattle.std.proofs.Common.{◌≡◌, ◌∙◌, ◌+◌, ⊎_elim, inl, inr, ℕ, false, zero, suc, List, ◌++◌, Option, Some, refl, ap, sym, subst, arith, slice_get}
use Rattle.std.specs.Prelude.{All, AllPairs}
use Rattle.std.proofs.lemmas.List.Elements.{All-append, All-nil, All-cons, All-head, All-tail}
use Rattle.std.proofs.lemmas.List.Kept.{AllPairs-cons}
use Rattle.lang_base.specs.declared.effect.Effect.{Effect}
use Rattle.lang_base.specs.declared.region.Rpl.{Rpl}
use Rattle.lang_base.specs.Branches.{Atomic, lists_clash, iterations_clash}
use Rattle.lang_base.specs.Types.{PlainType, int, array}
use Rattle.lang_typed.specs.declared.stmt.Forking.{Forking}
use Rattle.lang_typed.specs.Plain.{PlainProgram, PlainMember, TypedExpr, type_of, TypedExprs, Source, TypedStmt, TypedStmts, TypedBranches, no_stmts, more_stmts, no_branches, more_branches}
use Rattle.lang_typed.specs.Scope.{Scope, constant, member_at, with_local, in_loop_branch, in_branch, atomic_for}
use Rattle.lang_typed.specs.Effects.{Own, does, uses, reads, writes, as_effects, through_part, besides_part, after_branches}
use Rattle.lang_typed.specs.Statements.{NoClash, AreApart, IsVariable, Cuts, cuts_array, cuts_part, with_part, all_copies, BranchesPass, no_branch, one_branch, declared_as, Passes, AllPass, store, store_field, store_element, store_part, perform, nested, choice, choice_else, while_loop, return_nothing, return_value, print_int, print_boolean, print_text, atomic, cobegin, foreach, foreach_parts, no_more, then', declare, declare_regions}
use Rattle.lang_typed.specs.Typing.{Has, literal_int, literal_boolean, literal_null, read_local, read_field, read_element, length_of_array, call_method, create_object, construct_object, make_array, negative, negation, operation, conjunction, disjunction, length_of_part, read_part}
use Rattle.lang_typed.specs.Typing.{Fit}
use Rattle.lang_typed.specs.Typing.{Fit as fit}
use Rattle.body_infer.specs.Doing.{done_by, done_by_all, done_by_source, part_of, with_parts, effects_of, effects_of_all}
use Rattle.body_infer.specs.Walked.{Agree}
use Rattle.body_infer.proofs.Alike.{both_same, with_same, done_alike, effects_alike}
use Rattle.body_infer.proofs.Fewer.{Fewer, Less}
use Rattle.body_infer.proofs.Growing.{Grows, block_less, effects_less}
use Rattle.sound_infer.specs.Laws.{entered, entered_all, entered_branches}
use Rattle.sound_infer.proofs.Chains.{Falls}
use Rattle.sound_infer.proofs.Clashing.{lists_less, iterations_less, through_fewer, besides_fewer}
use Rattle.sound_infer.proofs.Effects.{part_does, all_is, branches_is}
use Rattle.sound_infer.proofs.Entered.{then_entered, alone_entered, still_completes, same_copies}
use Rattle.sound_infer.proofs.Forms.{field_is, element_is, local_is, callee_is, nothing_made, constructor_is, alone_does, declares_nothing, then_does, each_branch, branches_join}
use Rattle.sound_infer.proofs.Scopes.{agree_regions, agree_block, agree_loop, agree_branch, agree_parts, siblings_variables}
use Rattle.sound_infer.proofs.Tables.{with_members, above_there, below_back, subtype_there, args_there, type_there, atomic_there}

-- a member is there with another summary, and with another body too
pub record IsThere (ks qs : List PlainMember) (n : ℕ) (m : PlainMember) : Type 0 where
  pub summary : List Effect
  pub body : TypedStmts
  pub kept : slice_get ks n ≡ Some (record m { summary = summary })
  pub is : slice_get qs n ≡ Some (record m { summary = summary; body = body })

-- by the members `ks` what is done is less; the members `qs` have the same summaries
module _ (P : PlainProgram) (rank : ℕ → ℕ) (falls : Falls P rank) (ks qs : List PlainMember) (there : (n : ℕ) (m : PlainMember) → member_at P n ≡ Some m → IsThere ks qs n m) where
  -- the program in which effects are taken, and the one in which bodies are to pass
  abbrev K : PlainProgram
  K = with_members P ks

  abbrev Q : PlainProgram
  Q = with_members P qs

  has_as : {L : Scope} {e : TypedExpr} {E F : List Own} → F ≡ E → Has Q L e E → Has Q L e F
  has_as {L} {e} q h = subst (Has Q L e) (sym q) h

  mutual
    has_there : {L : Scope} {e : TypedExpr} {E : List Own} → Has P L e E → Has Q L e (done_by K L e)
    has_there (literal_int fits) = literal_int fits
    has_there literal_boolean = literal_boolean
    has_there literal_null = literal_null
    has_there (read_local h) = read_local h
    has_there (read_field {e = e} {c = c} {k = k} {args = args} {f = f} h ty fe rd eq) =
        has_as (both_same refl (field_is K (type_of e) c k args f (λ a. does (reads a)) ty fe)) (read_field (has_there h) ty fe rd eq)
    has_there {L} (read_element {a = a} {i = i} {t = t} {rpl = rpl} {named = named} ha ty hi ti rg eq) =
        has_as (both_same refl (both_same refl (element_is L (type_of a) t rpl named i (λ b. does (reads b)) ty))) (read_element (has_there ha) ty (has_there hi) ti rg eq)
    has_there (length_of_array h ty) = length_of_array (has_there h) ty
    has_there (call_method {e = e} {c = c} {r = r} {n = n} {args = args} {owned = owned} {regions = regions} {m = m} h ty rw mb ab ga fu kn rd ft nd_free eq) =
        let w = there n m mb in
        has_as (both_same refl (both_same refl (callee_is K rank falls (type_of e) c r n args owned regions (record m { summary = w.summary }) ty rw w.kept (above_there P ks ab))))
        (call_method (has_there h) ty rw w.is (above_there P qs ab) (args_there P qs ga) fu kn rd (all_there ft) (λ c d j b row. nd_free c d j (below_back P qs b) row) eq)
    has_there (create_object {c = c} {args = args} {k = k} is ga fu none) = has_as (nothing_made K c args k is none) (create_object is (args_there P qs ga) fu none)
    has_there (construct_object {c = c} {n = n} {args = args} {k = k} {m = m} is ga fu e mb ft nd_free) =
        let w = there n m mb in
        has_as (both_same refl (constructor_is K c n args k (record m { summary = w.summary }) is e w.kept)) (construct_object is (args_there P qs ga) fu e w.is (all_there ft) nd_free)
    has_there {L} (make_array {t = t} {a = a} {named = named} gt fu h ty) = make_array (type_there P qs L 0 (array t a named) gt) fu (has_there h) ty
    has_there (negative h ty) = negative (has_there h) ty
    has_there (negation h ty) = negation (has_there h) ty
    has_there (operation ha hb ops eq) = operation (has_there ha) (has_there hb) ops eq
    has_there (conjunction ha ta hb tb) = conjunction (has_there ha) ta (has_there hb) tb
    has_there (disjunction ha ta hb tb) = disjunction (has_there ha) ta (has_there hb) tb
    has_there (length_of_part e) = length_of_part e
    has_there {L} (read_part {k = k} {t = t} {a = a} e h ty) = has_as (both_same refl (local_is (L.local k) t a (λ b. uses k (reads b)) e)) (read_part e (has_there h) ty)

    all_there : {L : Scope} {es : TypedExprs} {ts : List PlainType} {E : List Own} → Fit P L es ts E → Fit Q L es ts (done_by_all K L es)
    all_there fit.none = fit.none
    all_there (fit.one_more h sub rest) = fit.one_more (has_there h) (subtype_there P qs sub) (all_there rest)

  -- the same, under a scope that agrees
  has_in : (L M : Scope) → Agree L M → {e : TypedExpr} {E : List Own} → Has P L e E → Has Q L e (done_by K M e)
  has_in L M g {e} h = subst (Has Q L e) (done_alike K L M g e) (has_there h)

  cuts_in : (L M : Scope) → Agree L M → {source : Source} {t : PlainType} {a : Rpl} {E : List Own} → Cuts P L source t a E → Cuts Q L source t a (done_by_source K M source)
  cuts_in L M g (cuts_array h ty full) = cuts_array (has_in L M g h) ty full
  cuts_in L M g (cuts_part e) = cuts_part e

  passes_as : {L : Scope} {s : TypedStmt} {E F : List Own} → F ≡ E → Passes Q L s E → Passes Q L s F
  passes_as {L} {s} q h = subst (Passes Q L s) (sym q) h

  passes_in : (L M : Scope) → Agree L M → (s : TypedStmt) → Passes Q L s (effects_of K L s) → Passes Q L s (effects_of K M s)
  passes_in L M g s h = subst (Passes Q L s) (effects_alike K L M g s) h

  block_as : {L : Scope} {ss ts : TypedStmts} {E F : List Own} → ts ≡ ss → F ≡ E → AllPass Q L ss E → AllPass Q L ts F
  block_as {L} {ss} {ts} {E} {F} q r h = subst (λ us. AllPass Q L us F) (sym q) (subst (AllPass Q L ss) (sym r) h)

  -- a part of an `if` or of a loop
  part_there : (L M : Scope) (s : TypedStmt) → AllPass Q L (entered_all K M (more_stmts s no_stmts)) (effects_of_all K M (more_stmts s no_stmts)) → AllPass Q L (more_stmts (entered K M s) no_stmts) (effects_of K M s)
  part_there L M s h = block_as (sym (alone_entered K M s)) (sym (alone_does K M s)) h

  module _ (grows : Grows K P) where
    -- what a statement does is less
    less_here : (L : Scope) (s : TypedStmt) → Fewer Less (effects_of K L s) (effects_of P L s)
    less_here L s =
        subst (λ E. Fewer Less E (effects_of P L s)) (alone_does K L s)
        (subst (Fewer Less (effects_of_all K L (more_stmts s no_stmts))) (alone_does P L s) (block_less K P L grows (more_stmts s no_stmts)))

    less_in : (L M : Scope) → Agree L M → (s : TypedStmt) → Fewer Less (effects_of K M s) (effects_of P L s)
    less_in L M g s = subst (λ E. Fewer Less E (effects_of P L s)) (effects_alike K L M g s) (less_here L s)

    -- of a part that passes
    part_less : (L M : Scope) → Agree L M → (s : TypedStmt) (E : List Own) → AllPass P L (more_stmts s no_stmts) E → Fewer Less (effects_of K M s) E
    part_less L M g s E p = subst (Fewer Less (effects_of K M s)) (part_does P rank falls L s E (all_is P rank falls p)) (less_in L M g s)

    -- branches clash no more

    abbrev Apart : Scope → Option Atomic → List Own → List Own → Type 0
    Apart L nd E F = lists_clash L.given nd (as_effects E) (as_effects F) ≡ false

    apart_less : (L : Scope) (nd : Option Atomic) (E F G H : List Own) → Fewer Less E G → Fewer Less F H → Apart L nd G H → Apart L nd E F
    apart_less L nd E F G H h g = lists_less L.given nd (as_effects E) (as_effects F) (as_effects G) (as_effects H) (effects_less E G h) (effects_less F H g)

    all_apart : (L M : Scope) → Agree L M → (nd : Option Atomic) (E G : List Own) → Fewer Less E G → (bs : TypedBranches) → All (Apart L nd G) (each_branch P L bs) → All (Apart L nd E) (each_branch K M bs)
    all_apart L M g nd E G h no_branches a = All-nil (Apart L nd E)
    all_apart L M g nd E G h (more_branches copies s bs) a =
        All-cons (Apart L nd E) (effects_of K M s) (each_branch K M bs)
        (apart_less L nd E (effects_of K M s) G (effects_of P L s) h (less_in L M g s) (All-head (Apart L nd G) (effects_of P L s) (each_branch P L bs) a))
        (all_apart L M g nd E G h bs (All-tail (Apart L nd G) (effects_of P L s) (each_branch P L bs) a))

    pairs_apart : (L M : Scope) → Agree L M → (nd : Option Atomic) (bs : TypedBranches) → AllPairs (Apart L nd) (each_branch P L bs) → AllPairs (Apart L nd) (each_branch K M bs)
    pairs_apart L M g nd no_branches a = λ i j d l k. absurd (omega (arith, k))
    pairs_apart L M g nd (more_branches copies s bs) a =
        AllPairs-cons (Apart L nd) (effects_of K M s) (each_branch K M bs)
        (all_apart L M g nd (effects_of K M s) (effects_of P L s) (less_in L M g s) bs (λ j d l. a zero (suc j) d (omega arith) (omega (arith, l))))
        (pairs_apart L M g nd bs (λ i j d l k. a (suc i) (suc j) d (omega (arith, l)) (omega (arith, k))))

    none_clash : (L M : Scope) → Agree L M → (forking : Forking) (bs : TypedBranches) (Es : List (List Own)) → each_branch P L bs ≡ Es → NoClash P forking L Es → NoClash Q forking L (each_branch K M bs)
    none_clash L M g forking bs Es e h =
        subst (λ nd. AllPairs (Apart L nd) (each_branch K M bs)) (atomic_there P qs forking L)
        (pairs_apart L M g (atomic_for forking P L) bs (subst (AllPairs (Apart L (atomic_for forking P L))) (sym e) h))

    no_iterations : (L : Scope) (forking : Forking) (x : ℕ) (E G : List Own) → Fewer Less E G → iterations_clash L.given (atomic_for forking P L) x (as_effects G) ≡ false →
        iterations_clash L.given (atomic_for forking Q L) x (as_effects E) ≡ false
    no_iterations L forking x E G h none =
        subst (λ nd. iterations_clash L.given nd x (as_effects E) ≡ false) (atomic_there P qs forking L)
        (iterations_less L.given (atomic_for forking P L) x (as_effects E) (as_effects G) (effects_less E G h) none)

    -- in branches and blocks the judgement's scope is another than the one in which effects are taken, so each rule has both
    mutual
      passes_there : {L : Scope} {s : TypedStmt} {E : List Own} → Passes P L s E → (M : Scope) → Agree L M → Passes Q L (entered K M s) (effects_of K M s)
      passes_there {L} (store lx h sub) M g = store lx (has_in L M g h) (subtype_there P qs sub)
      passes_there {L} (store_field {o = o} {c = c} {k = k} {args = args} {f = f} ho ty fe kn he sub) M g =
          passes_as (both_same refl (both_same refl (field_is K (type_of o) c k args f (λ a. does (writes a)) ty fe)))
          (store_field (has_in L M g ho) ty fe kn (has_in L M g he) (subtype_there P qs sub))
      passes_there {L} {s} (store_element {a = a} {i = i} {e = e} {t = t} {rpl = rpl} {named = named} ha ty hi ti rg he sub) M g =
          passes_in L M g s (passes_as (both_same {a = done_by K L a} refl (both_same {a = done_by K L i} refl (both_same {a = done_by K L e} refl (element_is L (type_of a) t rpl named i (λ b. does (writes b)) ty))))
          (store_element (has_there ha) ty (has_there hi) ti rg (has_there he) (subtype_there P qs sub)))
      passes_there {L} {s} (store_part {k = k} {t = t} {a = a} {i = i} {e = v} e hi ti he sub) M g =
          passes_in L M g s (passes_as (both_same {a = done_by K L i} refl (both_same {a = done_by K L v} refl (local_is (L.local k) t a (λ b. uses k (writes b)) e))) (store_part e (has_there hi) ti (has_there he) (subtype_there P qs sub)))
      passes_there {L} (perform ip h) M g = perform ip (has_in L M g h)
      passes_there (nested p) M g = nested (block_there p M g)
      passes_there {L} (choice {s = s} h ty p) M g = choice (has_in L M g h) ty (part_there L M s (block_there p M g))
      passes_there {L} (choice_else {s = s} {t = t} h ty p r) M g = choice_else (has_in L M g h) ty (part_there L M s (block_there p M g)) (part_there L M t (block_there r M g))
      passes_there {L} (while_loop {s = s} h ty p) M g = while_loop (has_in L M g h) ty (part_there L M s (block_there p M g))
      passes_there (return_nothing e) M g = return_nothing e
      passes_there {L} (return_value e h sub) M g = return_value e (has_in L M g h) (subtype_there P qs sub)
      passes_there {L} (print_int h ty) M g = print_int (has_in L M g h) ty
      passes_there {L} (print_boolean h ty) M g = print_boolean (has_in L M g h) ty
      passes_there print_text M g = print_text
      passes_there {L} (atomic p se) M g = atomic (block_there p M (agree_block L M g)) (λ e. (λ c. c, λ c. c))
      passes_there {L} (cobegin {forking = forking} {bs = bs} {Es = Es} nd_free p nc) M g =
          passes_as (ap (after_branches forking) (sym (branches_join K M bs)))
          (cobegin nd_free (branches_there p (All-nil (IsVariable L)) M g) (none_clash L M g forking bs Es (branches_is P rank falls p (All-nil (IsVariable L))) nc))
      passes_there {L} (foreach {forking = forking} {x = x} {s = s} {G = G} nd_free hs ts hc tc free p ic) M g =
          let N = with_local x (constant int) (in_loop_branch L) in
          let O = with_local x (constant int) M in
          let h : Agree N O = with_same (in_loop_branch L) M x (constant int) (agree_loop L M g) in
          foreach nd_free (has_in L M g hs) ts (has_in L M g hc) tc free (part_there N O s (block_there p O h)) (no_iterations L forking x (effects_of K O s) G (part_less N O h s G p) ic)
      passes_there {L} (foreach_parts {k = k} {source = source} {s = s} {t = t} {a = a} {G = G} cu hc tc free p ic lc) M g =
          let N = with_part k t a (in_loop_branch L) in
          let O = with_parts k (part_of M source) M in
          let h : Agree N O = agree_parts L M k t a cu free g in
          let less : Fewer Less (effects_of K O s) G = part_less N O h s G p in
          let besides = besides_fewer k (effects_of K O s) G less in
          foreach_parts (cuts_in L M g cu) (has_in L M g hc) tc free (part_there N O s (block_there p O h))
          (iterations_less L.given _ (k + 4) (besides_part k (effects_of K O s)) (besides_part k G) besides ic)
          (lists_less L.given _ (besides_part k (effects_of K O s)) (through_part k (effects_of K O s)) (besides_part k G) (through_part k G) besides (through_fewer k (effects_of K O s) G less) lc)

      pub block_there : {L : Scope} {ss : TypedStmts} {E : List Own} → AllPass P L ss E → (M : Scope) → Agree L M → AllPass Q L (entered_all K M ss) (effects_of_all K M ss)
      block_there no_more M g = no_more
      block_there {L} (then' {s = s} {ss = ss} p c rest) M g =
          block_as (then_entered K M s ss (declares_nothing p)) (then_does K M s ss (declares_nothing p))
          (then' (passes_there p M g) (⊎_elim (λ t. inl (still_completes K M s ∙ t)) (λ e. inr (ap (entered_all K M) e)) c) (block_there rest M g))
      block_there {L} (declare {x = x} {t = t} {is_final = is_final} free gt h sub rest) M g =
          declare free (type_there P qs L 0 t gt) (has_in L M g h) (subtype_there P qs sub) (block_there rest (with_local x (declared_as is_final t) M) (with_same L M x (declared_as is_final t) g))
      block_there {L} (declare_regions {rs = rs} fr rest) M g = declare_regions fr (block_there rest M (agree_regions L M rs g))

      branches_there : {L : Scope} {others : List ℕ} {bs : TypedBranches} {Es : List (List Own)} → BranchesPass P L others bs Es → All (IsVariable L) others → (M : Scope) → Agree L M →
          BranchesPass Q L others (entered_branches K M bs) (each_branch K M bs)
      branches_there no_branch v M g = no_branch
      branches_there {L} {others} (one_branch {copies = copies} {s = s} {bs = bs} cv ca p rest) v M g =
          let same = sym (same_copies K M bs) in
          let N = in_branch copies (others ++ all_copies bs) L in
          one_branch cv (subst (λ ys. AreApart copies (others ++ ys)) same ca)
          (subst (λ ys. AllPass Q (in_branch copies (others ++ ys) L) (more_stmts (entered K M s) no_stmts) (effects_of K M s)) same
          (part_there N M s (block_there p M (agree_branch L M copies (others ++ all_copies bs) (siblings_variables others v rest) g))))
          (branches_there rest (All-append (IsVariable L) others copies v cv) M g)
