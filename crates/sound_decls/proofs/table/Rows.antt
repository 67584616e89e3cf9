-- A member in a row of a class is its own, or stands in that row of its superclass.
use Rattle.std.proofs.Common.{◌≡◌, ◌∙◌, ◌⊎◌, inl, inr, ℕ, zero, suc, ◌+◌, ◌==◌, ◌&&◌, not, is_some, Bool, true, false, cond, List, [], ◌∷◌, ◌++◌, length, fold, slice_set, Option, Some, None, refl, ap, sym, subst, arith}
use Rattle.std.proofs.lemmas.Bool.Decides.{Decides-eqb}
use Rattle.std.proofs.lemmas.Option.{slice_get-map}
use Rattle.std.specs.List.{filter}
use Rattle.std.specs.Option.{option_map}
use Rattle.std.specs.Prelude.{slice_get, unwrap_or}
use Rattle.decl_headers.specs.Headers.{parent_of, parents_of}
use Rattle.decl_headers.specs.Rounds.{up}
use Rattle.decl_headers.proofs.Cycles.{up-then}
use Rattle.decl_headers.proofs.Inheriting.{made_step}
use Rattle.decl_headers.proofs.Walks.{top_none}
use Rattle.syntax_tree.specs.declared.class.Program.{Program}
use Rattle.syntax_tree.specs.Nd.{program_uses_nd}
use Rattle.lang_typed.specs.Scope.{IsBelow, below, same}
use Rattle.lang_typed.specs.Table.{RowIsThere}
use Rattle.decl_table.specs.declared.rows.MethodRow.{MethodRow}
use Rattle.decl_table.specs.declared.table.Table.{Table}
use Rattle.decl_table.specs.Inherited.{declared_methods, with_member, members_after, members_in}
use Rattle.decl_table.specs.Table.{headers_of, methods_of, overridden_by, row_of}
use Rattle.body_assembly.specs.Assembled.{PlainBody, member_of}
use Rattle.sound_lemmas.specs.Accepted.{IsAccepted}
use Rattle.sound_lemmas.proofs.Assembled.{facts, has_member}
use Rattle.sound_lemmas.proofs.Free.{and_split}
use Rattle.sound_lemmas.proofs.Lists.{some_same, map_there}
use Rattle.decl_laws.proofs.Facts.{parent_is}
use Rattle.sound_decls.proofs.table.Above.{P, parent_there}

-- what a list has after a change, and what passes a test
set_from : (xs : List ℕ) (at value r m : ℕ) → slice_get (slice_set xs at value) r ≡ Some m → (slice_get xs r ≡ Some m) ⊎ (m ≡ value)
set_from [] at value r m e = inl e
set_from (x ∷ xs) zero value zero m e = inr (sym (some_same e))
set_from (x ∷ xs) zero value (suc r) m e = inl e
set_from (x ∷ xs) (suc at) value zero m e = inl e
set_from (x ∷ xs) (suc at) value (suc r) m e = set_from xs at value r m e

pushed_from : (xs : List ℕ) (value r m : ℕ) → slice_get (xs ++ value ∷ []) r ≡ Some m → (slice_get xs r ≡ Some m) ⊎ (m ≡ value)
pushed_from [] value zero m e = inr (sym (some_same e))
pushed_from [] value (suc r) m e = cc
pushed_from (x ∷ xs) value zero m e = inl e
pushed_from (x ∷ xs) value (suc r) m e = pushed_from xs value r m e

filtered_from : {X : Type 0} (test : X → Bool) (xs : List X) (i : ℕ) (x : X) → slice_get (filter test xs) i ≡ Some x → (j : ℕ) × (slice_get xs j ≡ Some x) × (test x ≡ true)
filtered_from test [] i x e = cc
filtered_from {X} test (y ∷ xs) i x e = by (test y) refl i e (filtered_from test xs)
  where
    by : (b : Bool) → test y ≡ b → (i : ℕ) → slice_get (cond b (y ∷ filter test xs) (filter test xs)) i ≡ Some x →
        ((k : ℕ) (z : X) → slice_get (filter test xs) k ≡ Some z → (j : ℕ) × (slice_get xs j ≡ Some z) × (test z ≡ true)) → (j : ℕ) × (slice_get (y ∷ xs) j ≡ Some x) × (test x ≡ true)
    by true is zero e more = let same = some_same e in (0, e, ap test (sym same) ∙ is)
    by true is (suc i) e more = let w = more i x e in (suc w.0, w.1, w.2)
    by false is i e more = let w = more i x e in (suc w.0, w.1, w.2)

module _ (program : Program) (table : Table) (bodies : List PlainBody) (accepted : IsAccepted program table bodies)
  where
    member_from : (rows ids : List ℕ) (r m : ℕ) → slice_get (fold (with_member table) rows ids) r ≡ Some m → (slice_get rows r ≡ Some m) ⊎ ((i : ℕ) × (slice_get ids i ≡ Some m))
    member_from rows [] r m e = inl e
    member_from rows (id ∷ ids) r m e =
        elim (member_from (with_member table rows id) ids r m e) [
          | inl now ↦ by (is_some (overridden_by table id)) now
          | inr later ↦ inr (suc later.0, later.1)
        ]
      where
        own : (slice_get rows r ≡ Some m) ⊎ (m ≡ id) → (slice_get rows r ≡ Some m) ⊎ ((i : ℕ) × (slice_get (id ∷ ids) i ≡ Some m))
        own (inl old) = inl old
        own (inr new) = inr (0, ap Some (sym new))

        by : (b : Bool) → slice_get (cond b (slice_set rows (row_of table id) id) (rows ++ id ∷ [])) r ≡ Some m → (slice_get rows r ≡ Some m) ⊎ ((i : ℕ) × (slice_get (id ∷ ids) i ≡ Some m))
        by true now = own (set_from rows (row_of table id) id r m now)
        by false now = own (pushed_from rows id r m now)

    numbered_at : (i : ℕ) (row : MethodRow) → slice_get (methods_of table) i ≡ Some row → row.id ≡ i
    numbered_at = (facts program table bodies accepted program.names (program_uses_nd program)).numbered

    own_there : (class i m : ℕ) → slice_get (declared_methods table class) i ≡ Some m → (row : MethodRow) × (slice_get (methods_of table) m ≡ Some row) × (row.owner ≡ class)
    own_there class i m e =
        let test : MethodRow → Bool = λ row. not row.is_constructor && (row.owner == class) in
        let w = map_there (λ (row : MethodRow). row.id) (slice_get (filter test (methods_of table)) i) m (sym (slice_get-map (λ (row : MethodRow). row.id) (filter test (methods_of table)) i) ∙ e) in
        let f = filtered_from test (methods_of table) i w.0 w.1 in
        let here : f.0 ≡ m = sym (numbered_at f.0 w.0 f.1) ∙ w.2 in
        (w.0, subst (λ k. slice_get (methods_of table) k ≡ Some w.0) here f.1, (Decides-eqb w.0.owner class).0 (and_split (not w.0.is_constructor) (w.0.owner == class) f.2).1)

    abbrev start_of : Option ℕ → List ℕ
    start_of o = unwrap_or (option_map (members_in table) o) []

    row_from : (class r m : ℕ) → slice_get (members_in table class) r ≡ Some m →
        (slice_get (start_of (parent_of (headers_of table) class)) r ≡ Some m) ⊎ ((row : MethodRow) × (slice_get (methods_of table) m ≡ Some row) × (row.owner ≡ class))
    row_from class r m e =
        let made = made_step (headers_of table) [] (members_after table) class (facts program table bodies accepted program.names (program_uses_nd program)).forest in
        elim (member_from (start_of (parent_of (headers_of table) class)) (declared_methods table class) r m (ap (λ rows. slice_get rows r) (sym made) ∙ e)) [
          | inl old ↦ inl old
          | inr own ↦ inr (own_there class own.0 m own.1)
        ]

    -- of a row that the superclass has, it is the same, or the class's own
    pub kept_or_own : (class above r n m : ℕ) → parent_of (headers_of table) class ≡ Some above → slice_get (members_in table above) r ≡ Some n → slice_get (members_in table class) r ≡ Some m →
        (m ≡ n) ⊎ ((row : MethodRow) × (slice_get (methods_of table) m ≡ Some row) × (row.owner ≡ class))
    kept_or_own class above r n m is there e =
        elim (row_from class r m e) [
          | inl old ↦ inl (some_same (sym old ∙ ap (λ o. slice_get (start_of o) r) is ∙ there))
          | inr own ↦ inr own
        ]

    -- it stands in the class or above it
    row_up : (k class r m : ℕ) → up (parents_of (headers_of table)) k class ≡ None → slice_get (members_in table class) r ≡ Some m →
        (row : MethodRow) × (slice_get (methods_of table) m ≡ Some row) × IsBelow (P program table bodies accepted) class row.owner
    row_up zero class r m far e = cc
    row_up (suc k) class r m far e =
        elim (row_from class r m e) [
          | inl old ↦ by (parent_of (headers_of table) class) refl old (λ above. row_up k above r m)
          | inr own ↦ (own.0, own.1, subst (IsBelow (P program table bodies accepted) class) (sym own.2) same)
        ]
      where
        by : (o : Option ℕ) → parent_of (headers_of table) class ≡ o → slice_get (start_of o) r ≡ Some m →
            ((above : ℕ) → up (parents_of (headers_of table)) k above ≡ None → slice_get (members_in table above) r ≡ Some m → (row : MethodRow) × (slice_get (methods_of table) m ≡ Some row) × IsBelow (P program table bodies accepted) above row.owner) →
            (row : MethodRow) × (slice_get (methods_of table) m ≡ Some row) × IsBelow (P program table bodies accepted) class row.owner
        by None is old more = cc
        by (Some above) is old more =
            let on : k + 1 ≡ suc k = omega arith in
            let higher = sym (up-then (parents_of (headers_of table)) k 1 class above (sym (parent_is table class) ∙ is)) ∙ ap (λ j. up (parents_of (headers_of table)) j class) on ∙ far in
            let w = more above higher old in
            (w.0, w.1, below (parent_there program table bodies accepted class above is) w.2)

    pub row_is_there : (class r m : ℕ) → slice_get (members_in table class) r ≡ Some m → RowIsThere (P program table bodies accepted) class m
    row_is_there class r m e =
        let parents = parents_of (headers_of table) in
        let f = facts program table bodies accepted program.names (program_uses_nd program) in
        let w = row_up (suc (length parents)) class r m (top_none parents (suc (length parents)) class f.forest (omega arith)) e in
        let b = has_member program table bodies accepted program.names (program_uses_nd program) m w.0 w.1 in
        (member_of w.0 b.0, b.2, w.2)
