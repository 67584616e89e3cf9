-- What is asked of a place in a body holds at the begin of a branch of a `cobegin`, beside branches that don't disturb it.
use Rattle.std.proofs.Common.{◌≡◌, ◌∙◌, ◌⊎◌, ◌<◌, ◌==◌, ◌||◌, ℕ, Bool, true, false, cond, IsTrue, List, [], ◌∷◌, All, Contains, inl, inr, Option, Some, None, option_map, refl, sym, ap, subst}
use Rattle.std.specs.List.{list_any}
use Rattle.std.specs.Option.{option_map_or}
use Rattle.std.proofs.lemmas.Bool.{eq-eqb, false≢true}
use Rattle.std.proofs.lemmas.List.Elements.{All-nil, All-cons}
use Rattle.lang_base.specs.Types.{PlainType}
use Rattle.body_locals.specs.Touches.{stmt_reads, stmt_assigns}
use Rattle.syntax_tree.specs.Plain.{PlainStmt}
use Rattle.lang_typed.specs.Plain.{PlainProgram}
use Rattle.lang_typed.specs.Scope.{Scope, variable, frozen, reserved, read_alone, seen_in_branch, in_branch}
use Rattle.lang_typed.specs.Scope.{Local as Slot}
use Rattle.lang_typed.specs.Statements.{IsVariable}
use Rattle.body_exprs.specs.declared.env.Env.{Env}
use Rattle.body_exprs.specs.declared.env.LocalRow.{LocalRow}
use Rattle.body_exprs.specs.Env.{local_of}
use Rattle.body_check.specs.declared.node.Around.{Around}
use Rattle.body_check.specs.Checking.{slots_of}
use Rattle.body_check.specs.Around.{inside}
use Rattle.body_check.specs.Touching.{assigned}
use Rattle.body_check.proofs.Touched.{assigned_has}
use Rattle.sound_lemmas.proofs.Lists.{some_same}
use Rattle.sound_bodies.specs.Ready.{Ready}
use Rattle.sound_bodies.specs.Seen.{RowIs}
use Rattle.sound_bodies.proofs.effects.Gathered.{nothing_in, in_cases}
use Rattle.sound_bodies.proofs.scope.InScopeStatements.{locals_branch}
use Rattle.sound_bodies.proofs.scope.Readiness.{row_less, row_alone}
use Rattle.sound_bodies.proofs.statements.Walks.{NonFinal}

-- a slot that a branch beside one assigns: that of an outer variable, which the one doesn't touch
pub record Foreign (L : Scope) (env : Env) (s : PlainStmt) (x : ℕ) : Type 0 where
  pub name : ℕ
  pub row : LocalRow
  pub is : local_of env name ≡ Some row
  pub slot : row.slot ≡ x
  pub unread : IsTrue (stmt_reads name s) → ⊥
  pub unassigned : IsTrue (stmt_assigns name s) → ⊥
  pub kept : IsVariable L x

-- the slot of a name that is assigned is among those that the branch gives back
pub slot_among : (env : Env) (names : List ℕ) (n : ℕ) (row : LocalRow) → Contains names n → local_of env n ≡ Some row → list_any (λ y. row.slot == y) (slots_of env names) ≡ true
slot_among env [] n row c is = absurd (nothing_in n c)
slot_among env (name ∷ names) n row c is = by (local_of env name) refl (λ later. slot_among env names n row later is) (in_cases name names n c)
  where
    either : (a b : Bool) → b ≡ true → (a || b) ≡ true
    either true b h = refl
    either false b h = h

    first : (a b : Bool) → a ≡ true → (a || b) ≡ true
    first true b h = refl
    first false b h = cc

    by : (o : Option LocalRow) → local_of env name ≡ o → (Contains names n → list_any (λ y. row.slot == y) (slots_of env names) ≡ true) → (name ≡ n) ⊎ Contains names n →
        list_any (λ y. row.slot == y) (option_map_or (λ r. r.slot ∷ slots_of env names) o (slots_of env names)) ≡ true
    by (Some other) at next (inl same) =
        let one : other ≡ row = some_same (sym at ∙ ap (local_of env) same ∙ is) in
        first (row.slot == other.slot) (list_any (λ y. row.slot == y) (slots_of env names)) (eq-eqb row.slot other.slot (sym (ap (λ (z : LocalRow). z.slot) one)))
    by (Some other) at next (inr later) = either (row.slot == other.slot) (list_any (λ y. row.slot == y) (slots_of env names)) (next later)
    by None at next (inl same) = let no : None ≡ Some row = sym at ∙ ap (local_of env) same ∙ is in cc
    by None at next (inr later) = next later

pub all_by : (Q : ℕ → Type 0) (ys : List ℕ) → ((x : ℕ) → list_any (λ y. x == y) ys ≡ true → Q x) → All Q ys
all_by Q [] h = All-nil Q
all_by Q (y ∷ ys) h = All-cons Q y ys (h y (first (y == y) (list_any (λ z. y == z) ys) (eq-eqb y y refl))) (all_by Q ys (λ x t. h x (later (x == y) (list_any (λ z. x == z) ys) t)))
  where
    first : (a b : Bool) → a ≡ true → (a || b) ≡ true
    first true b h = refl
    first false b h = cc

    later : (a b : Bool) → b ≡ true → (a || b) ≡ true
    later true b h = refl
    later false b h = h

row_reserved : (r a r' a' : Bool) (row : LocalRow) (o : Option Slot) → RowIs r a row o → (t : PlainType) → o ≡ Some (variable t) → r' ≡ false → a' ≡ false → RowIs r' a' row (option_map (λ k. reserved) o)
row_reserved r a r' a' row o (RowIs.is_part p q same) t is u v = cc
row_reserved r a r' a' row o (RowIs.is_constant p g) t is u v = cc
row_reserved r a r' a' row o (RowIs.is_variable p g) t is u v = RowIs.is_reserved p g u v
row_reserved r a r' a' row o (RowIs.is_frozen p g w) t is u v = cc
row_reserved r a r' a' row o (RowIs.is_reserved p g w z) t is u v = cc

not_so : (b : Bool) → (b ≡ true → ⊥) → b ≡ false
not_so true h = absurd (h refl)
not_so false h = refl

module _ (P : PlainProgram) (L : Scope) (env : Env) (params : List Bool) (around : Around) (reads assigns : ℕ → Bool) (ready : Ready P L env params around reads assigns) (s : PlainStmt)
    (own others : List ℕ) (own_is : own ≡ slots_of env (assigned s)) (foreign : (x : ℕ) → list_any (λ y. x == y) others ≡ true → Foreign L env s x) (open' : (n : ℕ) → IsTrue (stmt_assigns n s) → NonFinal env n)
    (all : (n : ℕ) → IsTrue (stmt_reads n s) → IsTrue (reads n)) (writes : (n : ℕ) → IsTrue (stmt_assigns n s) → IsTrue (assigns n))
  where
    seen_row : (name : ℕ) (row : LocalRow) → local_of env name ≡ Some row → RowIs (stmt_reads name s) (stmt_assigns name s) row (seen_in_branch own others row.slot (L.local row.slot))
    seen_row name row h = by (list_any (λ y. row.slot == y) others) refl (list_any (λ y. row.slot == y) own) refl
      where
        outer : RowIs (reads name) (assigns name) row (L.local row.slot)
        outer = ready.sees.locals name row h

        beside : Foreign L env s row.slot → RowIs (stmt_reads name s) (stmt_assigns name s) row (option_map (λ k. reserved) (L.local row.slot))
        beside f =
            let same : f.name ≡ name = ready.step.apart f.name name f.row row f.is h f.slot in
            row_reserved (reads name) (assigns name) (stmt_reads name s) (stmt_assigns name s) row (L.local row.slot) outer f.kept.0 f.kept.1
            (not_so (stmt_reads name s) (λ t. f.unread (subst (λ z. IsTrue (stmt_reads z s)) (sym same) t)))
            (not_so (stmt_assigns name s) (λ t. f.unassigned (subst (λ z. IsTrue (stmt_assigns z s)) (sym same) t)))

        by : (b : Bool) → list_any (λ y. row.slot == y) others ≡ b → (c : Bool) → list_any (λ y. row.slot == y) own ≡ c →
            RowIs (stmt_reads name s) (stmt_assigns name s) row (cond b (option_map (λ k. reserved) (L.local row.slot)) (cond c (L.local row.slot) (option_map read_alone (L.local row.slot))))
        by true at_b c at_c = beside (foreign row.slot at_b)
        by false at_b true at_c = row_less (reads name) (assigns name) (stmt_reads name s) (stmt_assigns name s) row (L.local row.slot) (all name) (writes name) outer
        by false at_b false at_c =
            let none : stmt_assigns name s ≡ false =
            not_so (stmt_assigns name s) (λ t. false≢true (sym at_c ∙ ap (list_any (λ y. row.slot == y)) own_is ∙ slot_among env (assigned s) name row (assigned_has s name t) h)) in
            row_less (reads name) false (stmt_reads name s) (stmt_assigns name s) row (option_map read_alone (L.local row.slot)) (all name) (λ t. absurd (false≢true (sym none ∙ t)))
            (row_alone (reads name) (assigns name) row (L.local row.slot) outer)

    self_seen : seen_in_branch own others 0 (L.local 0) ≡ L.local 0
    self_seen = by (list_any (λ y. 0 == y) others) refl (list_any (λ y. 0 == y) own)
      where
        by : (b : Bool) → list_any (λ y. 0 == y) others ≡ b → (c : Bool) → cond b (option_map (λ k. reserved) (L.local 0)) (cond c (L.local 0) (option_map read_alone (L.local 0))) ≡ L.local 0
        by true at c = let v = (foreign 0 at).kept in let clash = sym ready.sees.self ∙ v.1 in absurd (differ clash)
          where
            differ : {t u : PlainType} → Some (frozen t) ≡ Some (variable u) → ⊥
            differ e = cc
        by false at true = refl
        by false at false = ap (option_map read_alone) ready.sees.self ∙ sym ready.sees.self

    -- at the begin of a branch
    pub ready_branch : Ready P (in_branch own others L) env params (inside around) (λ n. stmt_reads n s) (λ n. stmt_assigns n s)
    ready_branch = record {
      tells = ready.tells;
      sees = record {
        given = ready.sees.given;
        supers = ready.sees.supers;
        self = self_seen ∙ ready.sees.self;
        locals = seen_row;
        declared = ready.sees.declared;
        indices = ready.sees.indices;
        params = ready.sees.params;
        regions = ready.sees.regions;
      };
      step = ready.step;
      locals = locals_branch L own others (all_by (IsVariable L) others (λ x t. (foreign x t).kept)) ready.locals;
      below = λ x l h. below_at (list_any (λ y. x == y) others) (list_any (λ y. x == y) own) x (L.local x) (ready.below x) l h;
      regions = ready.regions;
      returns = record { value = λ e. absurd (false≢true (sym e)); nothing = λ e. absurd (false≢true (sym e)) };
      atomic = ready.atomic;
    }
      where
        below_at : (b c : Bool) (x : ℕ) (o : Option Slot) → ((l : Slot) → o ≡ Some l → x < env.slots) → (l : Slot) → cond b (option_map (λ k. reserved) o) (cond c o (option_map read_alone o)) ≡ Some l → x < env.slots
        below_at b c x (Some m) below l h = below m refl
        below_at true c x None below l h = cc
        below_at false true x None below l h = cc
        below_at false false x None below l h = cc
