-- The table gives each method its row.
use Rattle.std.proofs.Common.{◌≡◌, ◌≢◌, ◌∙◌, ℕ, suc, ◌+◌, ◌<◌, ◌≤◌, true, false, List, [], ◌∷◌, length, length-set, get_or, get_or-set_same, get_or-set_other, slice_set, replicate, Option, None, Some, refl, ap, sym, subst, arith}
use Rattle.std.proofs.lemmas.List.{length-map, length-replicate}
use Rattle.std.specs.Option.{option_map_or}
use Rattle.std.specs.Prelude.{slice_get}
use Rattle.syntax_tree.specs.declared.class.Program.{Program}
use Rattle.decl_headers.specs.declared.forest.Step.{Step}
use Rattle.decl_headers.specs.declared.forest.Step.TheVariants as step
use Rattle.decl_headers.specs.Headers.{parent_of, parents_of, class_count}
use Rattle.decl_headers.specs.Rounds.{up}
use Rattle.decl_headers.specs.Way.{way_of}
use Rattle.decl_headers.proofs.Cycles.{not_round, up-then}
use Rattle.decl_table.specs.declared.overridden.Own.{Own}
use Rattle.decl_table.specs.declared.rows.MethodRow.{MethodRow}
use Rattle.decl_table.specs.declared.table.Table.{Table}
use Rattle.decl_table.specs.Inherited.{members_in}
use Rattle.decl_table.specs.Places.{entry_at}
use Rattle.decl_table.specs.RowNumbers.{Numbering, with_all_rows, Counts, counted_after, all_counted, no_counts, inherited_rows}
use Rattle.decl_table.specs.Table.{headers_of, methods_of, row_of}
use Rattle.decl_table.specs.Visible.{all_own}
use Rattle.decl_table.proofs.Visible.{own_from, own_listed}
use Rattle.decl_laws.specs.Rows.{is_own, new_in, RowIs, inherited, HasRows}
use Rattle.decl_laws.proofs.Facts.{Facts, facts_of, parent_is, named_is, over_is}
use Rattle.decl_laws.proofs.Few.{sized, members_few}
use Rattle.decl_laws.proofs.Granted.{granted}
use Rattle.decl_laws.proofs.Numbers.{owner_of, method_own, Starts, Numbered, numbered}
use Rattle.decl_laws.proofs.Way.{after, Above, Enters, settled}

module _ (table : Table) (facts : Facts table) (few : length (methods_of table) ≤ 4294967295)
  where
    abbrev parents : List (Option ℕ)
    parents = parents_of (headers_of table)

    abbrev lists : List (List Own)
    lists = all_own (replicate (class_count (headers_of table)) []) 0 (methods_of table)

    abbrev enter : Counts → ℕ → Counts
    enter s class = counted_after (headers_of table) lists table.overrides s (step.Enter class)

    -- as many counts as classes, and as many rows as methods
    record Fine (s : Counts) : Type 0 where
      counts : length s.counts ≡ length parents
      rows : length s.rows ≡ length (methods_of table)

    -- the class has its rows, and so have its methods
    record Done (class : ℕ) (s : Counts) : Type 0 where
      count : get_or s.counts class 0 ≡ length (members_in table class)
      rows : (i : ℕ) (row : MethodRow) → slice_get (methods_of table) i ≡ Some row → is_own class row ≡ true → RowIs table.overrides (methods_of table) (inherited table) i (get_or s.rows i 0)

    classes : length parents ≡ class_count (headers_of table)
    classes = length-map (headers_of table).rows (λ row. row.parent)

    abbrev first_seen : Counts → ℕ → Numbering
    first_seen s class = record { next = inherited_rows (headers_of table) s.counts class; rows = s.rows }

    abbrev seen_in : Counts → ℕ → Numbering
    seen_in s class = with_all_rows table.overrides (first_seen s class) (own_from class 0 (methods_of table))

    entered_as : (s : Counts) (class : ℕ) → class < length parents → enter s class ≡ record { counts = slice_set s.counts class (seen_in s class).next; rows = (seen_in s class).rows }
    entered_as s class l =
        ap (λ own. let made = with_all_rows table.overrides (first_seen s class) own in record { counts = slice_set s.counts class made.next; rows = made.rows })
        (own_listed (class_count (headers_of table)) (methods_of table) class (omega (arith, classes, l)))

    above_done : (s : Counts) (class above : ℕ) → Above enter parents Fine Done s class → parent_of (headers_of table) class ≡ Some above → (n one : ℕ) → up parents n above ≡ Some one → Done one s
    above_done s class above holds e n one u = holds above (sym (parent_is table class) ∙ e) n one u

    starts : (s : Counts) (class : ℕ) → Fine s → Above enter parents Fine Done s class → Starts table.overrides (methods_of table) (inherited table) class 0 [] (methods_of table) (first_seen s class)
    starts s class fine holds = record {
      split = refl;
      place = refl;
      long = omega (arith, fine.rows);
      count = next ∙ plus;
      few = omega (arith, next, sized table facts class, members_few table facts class, few);
      above = λ j id row there own e.
          let plain : 0 + j ≡ j = omega arith in
          let w = over_is table facts j id row there (sym (ap (entry_at table.overrides) plain) ∙ e) in
          let p = named_is table facts w.0 row.name id w.2 in
          let parent : parent_of (headers_of table) class ≡ Some w.0 = ap (parent_of (headers_of table)) (sym (owner_of class row own)) ∙ w.1 in
          let m = p.3 in (
            (above_done s class w.0 holds parent p.1 p.0 p.2).rows id m.row m.there m.own,
            λ k other is_there mine same. straight w.0 p.0 p.1 parent p.2 (owned_once k id other m.row is_there same m.there mine p.0 m.own),
          );
    }
      where
        next : inherited_rows (headers_of table) s.counts class ≡ inherited table class
        next = by (parent_of (headers_of table) class) refl
          where
            by : (o : Option ℕ) → parent_of (headers_of table) class ≡ o → option_map_or (λ parent. get_or s.counts parent 0) o 0 ≡ option_map_or (λ above. length (members_in table above)) o 0
            by None e = refl
            by (Some above) e = (above_done s class above holds e 0 above refl).count

        plus : inherited table class ≡ inherited table class + 0
        plus = omega arith

        owned_once : (k id : ℕ) (other row : MethodRow) → slice_get (methods_of table) k ≡ Some other → 0 + k ≡ id → slice_get (methods_of table) id ≡ Some row → is_own class other ≡ true → (owner : ℕ) → is_own owner row ≡ true → owner ≡ class
        owned_once k id other row there same also mine owner own =
            let plain : k ≡ id = omega (arith, same) in
            let one : other ≡ row = some_same (sym there ∙ ap (slice_get (methods_of table)) plain ∙ also) in
            sym (owner_of owner row own) ∙ ap (λ (r : MethodRow). r.owner) (sym one) ∙ owner_of class other mine
          where
            some_same : {A : Type 0} {x y : A} → Some x ≡ Some y → x ≡ y
            some_same h = cc

        straight : (above owner n : ℕ) → parent_of (headers_of table) class ≡ Some above → up parents n above ≡ Some owner → owner ≡ class → ⊥
        straight above owner n e u same =
            let on : n + 1 ≡ suc n = omega arith in
            not_round (parents_of (headers_of table)) class (facts.forest.straight class) (n, ap (λ k. up parents k class) (sym on) ∙ up-then parents n 1 class above (sym (parent_is table class) ∙ e) ∙ u ∙ ap Some same)

    done : (s : Counts) (class : ℕ) → Fine s → Above enter parents Fine Done s class → Numbered table.overrides (methods_of table) (inherited table) class 0 (methods_of table) (first_seen s class) (seen_in s class)
    done s class fine holds = numbered table.overrides (methods_of table) (inherited table) class 0 [] (methods_of table) (first_seen s class) (starts s class fine holds)

    enters : Enters enter parents Fine Done
    enters = record {
      fine = λ s class l fine holds. subst Fine (sym (entered_as s class l)) (record {
        counts = length-set s.counts class (seen_in s class).next ∙ fine.counts;
        rows = (done s class fine holds).as_many ∙ fine.rows;
      });
      makes = λ s class l fine holds. subst (Done class) (sym (entered_as s class l)) (record {
        count = get_or-set_same s.counts class (seen_in s class).next 0 (omega (arith, l, fine.counts)) ∙ (done s class fine holds).count
            ∙ ap (λ n. n + new_in table.overrides class 0 (methods_of table)) (sym (starts_plain s class fine holds)) ∙ sym (sized table facts class);
        rows = λ i row there own.
            let plain : 0 + i ≡ i = omega arith in
            subst (λ k. RowIs table.overrides (methods_of table) (inherited table) k (get_or (seen_in s class).rows k 0)) plain ((done s class fine holds).found i row there own);
      });
      keeps = λ s class one l fine holds apart was. subst (Done one) (sym (entered_as s class l)) (record {
        count = get_or-set_other s.counts class one (seen_in s class).next 0 apart ∙ was.count;
        rows = λ i row there own. subst (RowIs table.overrides (methods_of table) (inherited table) i) (sym ((done s class fine holds).kept i (others i row one there own class apart))) (was.rows i row there own);
      });
    }
      where
        starts_plain : (s : Counts) (class : ℕ) → Fine s → Above enter parents Fine Done s class → inherited table class ≡ inherited_rows (headers_of table) s.counts class
        starts_plain s class fine holds = let h = (starts s class fine holds).count in omega (arith, h)

        others : (i : ℕ) (row : MethodRow) (one : ℕ) → slice_get (methods_of table) i ≡ Some row → is_own one row ≡ true → (class : ℕ) → one ≢ class → (j : ℕ) (other : MethodRow) → slice_get (methods_of table) j ≡ Some other → is_own class other ≡ true → 0 + j ≡ i → ⊥
        others i row one there own class apart j other also mine same =
            let plain : i ≡ j = omega (arith, same) in
            apart (sym (owner_of one row own) ∙ ap (λ (r : MethodRow). r.owner) (some_same (sym there ∙ ap (slice_get (methods_of table)) plain ∙ also)) ∙ owner_of class other mine)
          where
            some_same : {A : Type 0} {x y : A} → Some x ≡ Some y → x ≡ y
            some_same h = cc

    same_way : (s : Counts) (steps : List Step) → all_counted (headers_of table) lists table.overrides s steps ≡ after enter parents Fine Done s steps
    same_way s [] = refl
    same_way s (step.Enter class ∷ steps) = same_way (enter s class) steps
    same_way s (step.Leave class ∷ steps) = same_way s steps

    pub all_given : (i : ℕ) (row : MethodRow) → slice_get (methods_of table) i ≡ Some row → row.is_constructor ≡ false → table.rows ≡ (all_counted (headers_of table) lists table.overrides (no_counts (headers_of table) (length (methods_of table))) (way_of parents)).rows
        → RowIs table.overrides (methods_of table) (inherited table) i (row_of table i)
    all_given i row there method is =
        subst (λ (rows : List ℕ). RowIs table.overrides (methods_of table) (inherited table) i (get_or rows i 0)) (sym (is ∙ ap (λ (c : Counts). c.rows) (same_way (no_counts (headers_of table) (length (methods_of table))) (way_of parents))))
        ((settled enter parents Fine Done (no_counts (headers_of table) (length (methods_of table))) row.owner facts.forest enters
        (record { counts = length-replicate (class_count (headers_of table)) 0 ∙ sym classes; rows = length-replicate (length (methods_of table)) 0 }) (facts.owned i row there)).rows i row there (method_own row method))

pub rows_given : (program : Program) (table : Table) → HasRows program table → (id : ℕ) (method : MethodRow) → slice_get (methods_of table) id ≡ Some method → method.is_constructor ≡ false →
    RowIs table.overrides (methods_of table) (inherited table) id (row_of table id)
rows_given program table has id method there plain = all_given table (facts_of program table has) has.few id method there plain (granted has).rows
