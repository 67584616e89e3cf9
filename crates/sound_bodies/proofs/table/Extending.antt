-- The superclasses in the class table of an accepted text: of each class one, with as many region arguments as it has parameters.
use Rattle.std.proofs.Common.{◌≡◌, ◌∙◌, ◌⊎◌, ℕ, zero, suc, ◌+◌, ◌<◌, ◌≤◌, ◌==◌, Bool, true, false, cond, List, [], ◌∷◌, length, filter_map, inl, inr, Option, None, Some, option_map, option_and_then, refl, sym, ap, subst, arith}
use Rattle.std.proofs.lemmas.Bool.{eqb-true, eq-eqb}
use Rattle.std.proofs.lemmas.List.{length-append, length-map}
use Rattle.std.proofs.lemmas.Option.{slice_get_within}
use Rattle.std.specs.Option.{option_map_or}
use Rattle.std.specs.Prelude.{slice_get, unwrap_or}
use Rattle.lang_base.specs.declared.effect.Constraint.{Constraint}
use Rattle.lang_base.specs.declared.refusal.Kind.TheVariants as kind
use Rattle.lang_base.specs.declared.region.Rpl.{Rpl}
use Rattle.lang_base.specs.declared.ty.Super.{Super}
use Rattle.lang_base.specs.declared.ty.Ty.{Ty}
use Rattle.lang_base.specs.Types.{PlainType, plain_type, superclass}
use Rattle.lang_base.specs.Types.PlainType.{class}
use Rattle.decl_headers.specs.declared.header.Headers.{Headers}
use Rattle.decl_headers.specs.declared.header.ParamRow.{ParamRow}
use Rattle.decl_headers.specs.Headers.{parent_of}
use Rattle.decl_headers.specs.Numbers.{as_number}
use Rattle.syntax_tree.specs.declared.class.Class.{Class}
use Rattle.syntax_tree.specs.declared.class.Parent.{Parent}
use Rattle.syntax_tree.specs.declared.class.Program.{Program}
use Rattle.decl_resolve.specs.Args.{args_given, args_faults, local_fault, is_unfit}
use Rattle.decl_resolve.specs.Classes.{params_in}
use Rattle.decl_resolve.specs.Index.{no_index}
use Rattle.decl_resolve.specs.Reading.{path_meant, each_faults, arg_need, args_read}
use Rattle.decl_resolve.specs.Scopes.{PlainScope}
use Rattle.decl_table.specs.declared.table.Table.{Table}
use Rattle.decl_classes.specs.Around.{class_scope}
use Rattle.decl_table.specs.Places.{last_from, by_place, is_super_of, super_place}
use Rattle.decl_table.specs.Plain.{PlainSuper, plain_super}
use Rattle.decl_classes.specs.Rows.{super_rows, super_faults, supers_meant, class_faults}
use Rattle.decl_classes.specs.Signatures.{parent_meant, parent_arg_faults, fit_faults, parent_faults}
use Rattle.decl_table.specs.Table.{headers_of, supers_of, parent_type_of, parent_args_of, class_paths}
use Rattle.decl_laws.specs.Rows.{HasRows}
use Rattle.decl_laws.proofs.Facts.{got_either}
use Rattle.decl_laws.proofs.Granted.{granted}
use Rattle.sound_lemmas.proofs.Free.{append_none, fault_none, joined_free}
use Rattle.sound_lemmas.proofs.Known.{args_known, given_known}
use Rattle.sound_lemmas.proofs.Lists.{some_same, and_then_there, map_there, got_mapped}
use Rattle.sound_bodies.proofs.scope.Closed.{args_closed}
use Rattle.sound_bodies.proofs.table.Declarations.{class_closed, class_free, signatures_free}
use Rattle.sound_bodies.proofs.scope.InParams.{PathsIn}

-- the arguments that a class gives its superclass
record ArgsSaid (headers : Headers) (all : List (List Constraint)) (number : ℕ) (tree : Parent) (parent : ℕ) : Type 0 where
  args : List Rpl
  is : parent_meant (class_scope headers all number) tree parent ≡ class parent args
  over : PathsIn (length (params_in headers number)) args
  many : length args ≡ length (params_in headers parent)

args_said : (headers : Headers) (all : List (List Constraint)) (number : ℕ) (tree : Parent) (parent : ℕ) → parent_faults (class_scope headers all number) tree parent ≡ [] → ArgsSaid headers all number tree parent
args_said headers all number tree parent free = record {
  args = rs.0;
  is = ap (λ o. class parent (unwrap_or o [])) rs.1;
  over = closed.0;
  many = closed.1;
}
  where
    scope : PlainScope
    scope = class_scope headers all number

    params : List ParamRow
    params = params_in headers parent

    f : (parent_arg_faults scope tree.args parent ≡ []) × (fit_faults scope (args_read scope no_index tree.args) tree parent ≡ [])
    f = append_none (parent_arg_faults scope tree.args parent) _ free

    fit : is_unfit (length tree.args) params ≡ false
    fit =
        let g = append_none (args_faults (args_read scope no_index tree.args).local (length tree.args) params tree.name.place) _ f.1 in
        let h = append_none (local_fault (args_read scope no_index tree.args).local false) _ g.0 in
        fault_none (is_unfit (length tree.args) params) kind.RegionArgs tree.name.place h.1

    known : length (filter_map (path_meant scope no_index) tree.args) ≡ length tree.args
    known = args_known scope no_index (arg_need params true (length tree.args)) 0 tree.args (joined_free (each_faults scope no_index (arg_need params true (length tree.args)) 0 tree.args) f.0)

    rs : (rs : List Rpl) × (args_given (length tree.args) (filter_map (path_meant scope no_index) tree.args) params ≡ Some rs)
    rs = given_known (length tree.args) (filter_map (path_meant scope no_index) tree.args) params known fit

    closed : PathsIn (length (params_in headers number)) rs.0 × (length rs.0 ≡ length params)
    closed = args_closed (length (params_in headers number)) scope (class_closed headers all number) no_index tree.args params rs.0 rs.1

-- the row of the superclass of a class
record SuperOf (scope : PlainScope) (one : Class) (row : PlainSuper) : Type 0 where
  tree : Parent
  written : one.parent ≡ Some tree
  parent : ℕ
  above : parent_of scope.headers scope.class ≡ Some parent
  number : row.class ≡ scope.class
  meant : row.parent ≡ parent_meant scope tree parent

super_of : (scope : PlainScope) (one : Class) (i : ℕ) (row : PlainSuper) → slice_get (super_rows scope one) i ≡ Some row → SuperOf scope one row
super_of scope one i row e = by one.parent refl (parent_of scope.headers scope.class) refl i e
  where
    by : (t : Option Parent) → one.parent ≡ t → (p : Option ℕ) → parent_of scope.headers scope.class ≡ p → (i : ℕ) →
        slice_get (option_map_or (λ tree. option_map_or (λ parent. record { class = scope.class; parent = parent_meant scope tree parent } ∷ []) p []) t []) i ≡ Some row → SuperOf scope one row
    by None w p a i e = cc
    by (Some tree) w None a i e = cc
    by (Some tree) w (Some parent) a zero e = record {
      tree = tree;
      written = w;
      parent = parent;
      above = a;
      number = ap (λ (r : PlainSuper). r.class) (sym (some_same e));
      meant = ap (λ (r : PlainSuper). r.parent) (sym (some_same e));
    }
    by (Some tree) w (Some parent) a (suc i) e = cc

one_super : (scope : PlainScope) (one : Class) → length (super_rows scope one) ≤ 1
one_super scope one = by one.parent (parent_of scope.headers scope.class)
  where
    by : (t : Option Parent) (p : Option ℕ) → length {A = PlainSuper} (option_map_or (λ tree. option_map_or (λ parent. record { class = scope.class; parent = parent_meant scope tree parent } ∷ []) p []) t []) ≤ 1
    by None p = omega arith
    by (Some tree) None = omega arith
    by (Some tree) (Some parent) = omega arith

few_supers : (headers : Headers) (all : List (List Constraint)) (at : ℕ) (classes : List Class) → length (supers_meant headers all at classes) ≤ length classes
few_supers headers all at [] = omega arith
few_supers headers all at (one ∷ classes) =
    let h = few_supers headers all (at + 1) classes in
    let own = one_super (class_scope headers all (as_number at)) one in
    let both = length-append (super_rows (class_scope headers all (as_number at)) one) (supers_meant headers all (at + 1) classes) in
    omega (arith, h, own, both)

record SuperIn (headers : Headers) (all : List (List Constraint)) (at : ℕ) (classes : List Class) (row : PlainSuper) : Type 0 where
  place : ℕ
  one : Class
  is : slice_get classes place ≡ Some one
  said : SuperOf (class_scope headers all (at + place)) one row

super_in : (headers : Headers) (all : List (List Constraint)) (at : ℕ) (classes : List Class) (i : ℕ) (row : PlainSuper) → slice_get (supers_meant headers all at classes) i ≡ Some row → at + length classes ≤ 4294967295 →
    SuperIn headers all at classes row
super_in headers all at [] i row e few = cc
super_in headers all at (one ∷ classes) i row e few =
    elim (got_either (super_rows (class_scope headers all (as_number at)) one) (supers_meant headers all (at + 1) classes) i row e) [
      | inl found ↦ record {
        place = 0;
        one = one;
        is = refl;
        said = subst (λ k. SuperOf (class_scope headers all k) one row) here (super_of (class_scope headers all (as_number at)) one i row found);
      }
      | inr more ↦
          let w = super_in headers all (at + 1) classes more.0 row more.2 (omega (arith, few)) in
          let next : at + 1 + w.place ≡ at + suc w.place = omega arith in
          record { place = suc w.place; one = w.one; is = w.is; said = subst (λ k. SuperOf (class_scope headers all k) w.one row) next w.said }
    ]
  where
    here : as_number at ≡ at + 0
    here = omega (arith, few)

-- the last row that is meant is there, where any is
last_is : {A : Type 0} (test : A → Bool) (at : ℕ) (found : Option ℕ) (rows : List A) (number : ℕ) → last_from test by_place at found rows ≡ Some number →
    (found ≡ Some number) ⊎ ((i : ℕ) × (row : A) × (slice_get rows i ≡ Some row) × (test row ≡ true) × (number ≡ as_number (at + i)))
last_is test at found [] number e = inl e
last_is test at found (row ∷ rows) number e =
    elim (last_is test (at + 1) (cond (test row) (Some (as_number at)) found) rows number e) [
      | inl now ↦ by (test row) refl now
      | inr w ↦
          let next : at + 1 + w.0 ≡ at + suc w.0 = omega arith in
          inr (suc w.0, w.1, w.2, w.3, w.4 ∙ ap as_number next)
    ]
  where
    by : (b : Bool) → test row ≡ b → cond b (Some (as_number at)) found ≡ Some number → (found ≡ Some number) ⊎ ((i : ℕ) × (one : _) × (slice_get (row ∷ rows) i ≡ Some one) × (test one ≡ true) × (number ≡ as_number (at + i)))
    by true is now =
        let here : at ≡ at + 0 = omega arith in
        inr (0, row, refl, is, sym (some_same now) ∙ ap as_number here)
    by false is now = inl now

last_some : {A : Type 0} (test : A → Bool) (at number : ℕ) (rows : List A) → (one : ℕ) × (last_from test by_place at (Some number) rows ≡ Some one)
last_some test at number [] = (number, refl)
last_some test at number (row ∷ rows) = by (test row) (λ found. last_some test (at + 1) found rows)
  where
    by : (b : Bool) → ((found : ℕ) → (one : ℕ) × (last_from test by_place (at + 1) (Some found) rows ≡ Some one)) → (one : ℕ) × (last_from test by_place (at + 1) (cond b (Some (as_number at)) (Some number)) rows ≡ Some one)
    by true more = more (as_number at)
    by false more = more number

last_there : {A : Type 0} (test : A → Bool) (at : ℕ) (found : Option ℕ) (rows : List A) (i : ℕ) (row : A) → slice_get rows i ≡ Some row → test row ≡ true → (one : ℕ) × (last_from test by_place at found rows ≡ Some one)
last_there test at found [] i row e is = cc
last_there test at found (first ∷ rows) zero row e is =
    let w = last_some test (at + 1) (as_number at) rows in
    (w.0, ap (λ b. last_from test by_place (at + 1) (cond b (Some (as_number at)) found) rows) (ap test (some_same e) ∙ is) ∙ w.1)
last_there test at found (first ∷ rows) (suc i) row e is = last_there test (at + 1) (cond (test first) (Some (as_number at)) found) rows i row e is

-- the row of a superclass
superclass_row : (rows : List Super) (c : ℕ) (t : PlainType) → superclass rows c ≡ Some t → (i : ℕ) × (row : Super) × (slice_get rows i ≡ Some row) × (row.class ≡ c) × (plain_type row.parent ≡ t)
superclass_row [] c t e = cc
superclass_row (row ∷ rows) c t e = by (row.class == c) refl e (superclass_row rows c t)
  where
    by : (b : Bool) → (row.class == c) ≡ b → cond b (Some (plain_type row.parent)) (superclass rows c) ≡ Some t →
        (superclass rows c ≡ Some t → (i : ℕ) × (one : Super) × (slice_get rows i ≡ Some one) × (one.class ≡ c) × (plain_type one.parent ≡ t)) →
        (i : ℕ) × (one : Super) × (slice_get (row ∷ rows) i ≡ Some one) × (one.class ≡ c) × (plain_type one.parent ≡ t)
    by true is h more = (0, row, refl, eqb-true row.class c is, some_same h)
    by false is h more = let w = more h in (suc w.0, w.1, w.2, w.3, w.4)

-- what is known of the superclass of a class
pub record ParentSaid (table : Table) (at : ℕ) (t : PlainType) : Type 0 where
  pub parent : ℕ
  pub above : parent_of (headers_of table) at ≡ Some parent
  pub is : t ≡ class parent (parent_args_of table at)
  pub over : PathsIn (length (params_in (headers_of table) at)) (parent_args_of table at)
  pub many : length (parent_args_of table at) ≡ length (params_in (headers_of table) parent)

module _ (program : Program) (table : Table) (has : HasRows program table)
  where
    -- what its row says
    row_in : (i : ℕ) (row : Super) → slice_get (supers_of table) i ≡ Some row → SuperIn (headers_of table) table.given 0 program.classes (plain_super row)
    row_in i row e =
        let counted = has.counted.0 in
        super_in (headers_of table) table.given 0 program.classes i (plain_super row)
        (ap (λ rows. slice_get rows i) (sym (granted has).read.supers) ∙ got_mapped plain_super (supers_of table) i row e) (omega (arith, counted))

    record RowSaid (row : Super) : Type 0 where
      parent : ℕ
      args : List Rpl
      above : parent_of (headers_of table) row.class ≡ Some parent
      is : plain_type row.parent ≡ class parent args
      over : PathsIn (length (params_in (headers_of table) row.class)) args
      many : length args ≡ length (params_in (headers_of table) parent)

    row_said : (i : ℕ) (row : Super) → slice_get (supers_of table) i ≡ Some row → RowSaid row
    row_said i row e = record {
      parent = w.said.parent;
      args = a.args;
      above = ap (parent_of (headers_of table)) w.said.number ∙ w.said.above;
      is = w.said.meant ∙ a.is;
      over = subst (λ k. PathsIn (length (params_in (headers_of table) k)) a.args) (sym w.said.number) a.over;
      many = a.many;
    }
      where
        w : SuperIn (headers_of table) table.given 0 program.classes (plain_super row)
        w = row_in i row e

        scope : PlainScope
        scope = class_scope (headers_of table) table.given (0 + w.place)

        number : as_number (0 + w.place) ≡ 0 + w.place
        number = let l = slice_get_within program.classes w.place w.one w.is in let counted = has.counted.0 in omega (arith, l, counted)

        faults : super_faults scope w.one ≡ []
        faults =
            let f = subst (λ k. class_faults (class_scope (headers_of table) table.given k) w.one ≡ []) number
            (class_free (headers_of table) table.given 0 program.classes w.place w.one (signatures_free program table (granted has).read) w.is) in
            (append_none (super_faults scope w.one) _ f).0

        a : ArgsSaid (headers_of table) table.given (0 + w.place) w.said.tree w.said.parent
        a = args_said (headers_of table) table.given (0 + w.place) w.said.tree w.said.parent
            (sym (ap (λ t. option_map_or (λ tree. option_map_or (parent_faults scope tree) (parent_of scope.headers scope.class) []) t []) w.said.written
            ∙ ap (λ p. option_map_or (parent_faults scope w.said.tree) p []) w.said.above) ∙ faults)

    -- two rows of one class say the same
    rows_same : (i j : ℕ) (row other : Super) → slice_get (supers_of table) i ≡ Some row → slice_get (supers_of table) j ≡ Some other → row.class ≡ other.class → plain_type row.parent ≡ plain_type other.parent
    rows_same i j row other e f same = by (row_in i row e) (row_in j other f)
      where
        by : SuperIn (headers_of table) table.given 0 program.classes (plain_super row) → SuperIn (headers_of table) table.given 0 program.classes (plain_super other) → plain_type row.parent ≡ plain_type other.parent
        by w v =
            let place : w.place ≡ v.place = (let p = w.said.number in let q = v.said.number in omega (arith, p, q, same)) in
            let ones : w.one ≡ v.one = some_same (sym w.is ∙ ap (slice_get program.classes) place ∙ v.is) in
            let trees : w.said.tree ≡ v.said.tree = some_same (sym w.said.written ∙ ap (λ (c : Class). c.parent) ones ∙ v.said.written) in
            let parents : w.said.parent ≡ v.said.parent = some_same (sym w.said.above ∙ ap (λ k. parent_of (headers_of table) (0 + k)) place ∙ v.said.above) in
            w.said.meant
            ∙ ap (λ k. parent_meant (class_scope (headers_of table) table.given (0 + k)) w.said.tree w.said.parent) place
            ∙ ap (λ t. parent_meant (class_scope (headers_of table) table.given (0 + v.place)) t w.said.parent) trees
            ∙ ap (parent_meant (class_scope (headers_of table) table.given (0 + v.place)) v.said.tree) parents
            ∙ sym v.said.meant

    supers_few : length (supers_of table) < 4294967295
    supers_few =
        let few = few_supers (headers_of table) table.given 0 program.classes in
        let same = sym (length-map (supers_of table) plain_super) ∙ ap length (granted has).read.supers in
        let counted = has.counted.0 in
        omega (arith, few, same, counted)

    -- the row that is looked up
    parent_row : (at : ℕ) (t : Ty) → parent_type_of table at ≡ Some t → (i : ℕ) × (row : Super) × (slice_get (supers_of table) i ≡ Some row) × (row.class ≡ at) × (row.parent ≡ t)
    parent_row at t e =
        let m = map_there (λ (row : Super). row.parent) (option_and_then (λ place. slice_get table.supers place) (super_place table.supers at)) t e in
        let p = and_then_there (λ place. slice_get table.supers place) (super_place table.supers at) m.0 m.1 in
        elim (last_is (is_super_of at) 0 None table.supers p.0 p.1) [
          | inl none ↦ absurd (cc (none))
          | inr w ↦
              let l = slice_get_within (supers_of table) w.0 w.1 w.2 in
              let place : w.0 ≡ p.0 = (let is = w.4 in omega (arith, is, l, supers_few)) in
              let same : w.1 ≡ m.0 = some_same (sym w.2 ∙ ap (slice_get table.supers) place ∙ p.2) in
              (w.0, w.1, w.2, eqb-true w.1.class at w.3, ap (λ (row : Super). row.parent) same ∙ m.2)
        ]

    pub parent_said : (at : ℕ) (t : Ty) → parent_type_of table at ≡ Some t → ParentSaid table at (plain_type t)
    parent_said at t e =
        let w = parent_row at t e in
        let s = row_said w.0 w.1 w.2 in
        let is : plain_type t ≡ class s.parent s.args = ap plain_type (sym w.4) ∙ s.is in
        let args : parent_args_of table at ≡ s.args = ap (λ o. option_map_or (λ parent. class_paths (plain_type parent)) o []) e ∙ ap class_paths is in
        record {
          parent = s.parent;
          above = ap (parent_of (headers_of table)) (sym w.3) ∙ s.above;
          is = is ∙ ap (class s.parent) (sym args);
          over = subst (PathsIn (length (params_in (headers_of table) at))) (sym args) (subst (λ k. PathsIn (length (params_in (headers_of table) k)) s.args) w.3 s.over);
          many = ap length args ∙ s.many;
        }

    -- the arguments of a superclass are over the parameters of the class
    pub parents_over : (at : ℕ) → PathsIn (length (params_in (headers_of table) at)) (parent_args_of table at)
    parents_over at = by (parent_type_of table at) refl
      where
        by : (o : Option Ty) → parent_type_of table at ≡ o → PathsIn (length (params_in (headers_of table) at)) (parent_args_of table at)
        by None e = subst (PathsIn (length (params_in (headers_of table) at))) (sym (ap (λ o. option_map_or (λ parent. class_paths (plain_type parent)) o []) e)) tt
        by (Some t) e = (parent_said at t e).over

    -- the superclass that the rows give a class is the one that is looked up
    pub superclass_said : (c : ℕ) (t : PlainType) → superclass (supers_of table) c ≡ Some t → ParentSaid table c t
    superclass_said c t e =
        let w = superclass_row (supers_of table) c t e in
        let l = slice_get_within (supers_of table) w.0 w.1 w.2 in
        let f = last_there (is_super_of c) 0 None (supers_of table) w.0 w.1 w.2 (eq-eqb w.1.class c w.3) in
        elim (last_is (is_super_of c) 0 None (supers_of table) f.0 f.1) [
          | inl none ↦ absurd (cc (none))
          | inr v ↦
              let l = slice_get_within (supers_of table) v.0 v.1 v.2 in
              let place : f.0 ≡ v.0 = (let is = v.4 in omega (arith, is, l, supers_few)) in
              let found : parent_type_of table c ≡ Some v.1.parent =
              ap (λ o. option_map (λ (row : Super). row.parent) (option_and_then (λ place. slice_get table.supers place) o)) f.1
              ∙ ap (λ k. option_map (λ (row : Super). row.parent) (slice_get table.supers k)) place ∙ ap (option_map (λ (row : Super). row.parent)) v.2 in
              let same = rows_same v.0 w.0 v.1 w.1 v.2 w.2 (eqb-true v.1.class c v.3 ∙ sym w.3) in
              subst (ParentSaid table c) (same ∙ w.4) (parent_said c v.1.parent found)
        ]
