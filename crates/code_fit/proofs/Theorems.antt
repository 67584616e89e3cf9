-- The code of a resolved program with room for its bodies is fit.
use Rattle.std.proofs.Common.{◌≡◌, ◌⊎◌, inl, inr, ◌<◌, ◌≤◌, ℕ, zero, suc, ◌+◌, Bool, true, false, not, nat_lt, ltb-true, ltb-false, List, [], ◌∷◌, ◌++◌, map, length, length-append, refl, sym, ap, ◌∙◌, subst, arith, Option, Some, None, option_map, option_and_then, slice_get}
use Rattle.lang_base.specs.FirstValues.{first_value}
use Rattle.std.proofs.lemmas.List.{length-map}
use Rattle.std.proofs.lemmas.Option.{slice_get-map}
use Rattle.lang_typed.specs.Plain.{PlainProgram, PlainClass, PlainParent, TypedStmts}
use Rattle.lang_typed.specs.Resolved.{is_void, gives_value, RowGives, Resolved}
use Rattle.lang_typed.specs.Scope.{IsBelow, same, below, class_at, row_at}
use Rattle.lang_typed.specs.Scope as program
use Rattle.lang_typed.specs.Statements.{all_complete}
use Rattle.lang_typed.specs.WellTyped.{WellTyped}
use Rattle.code_instrs.specs.Plain as code
use Rattle.code_instrs.specs.Plain.{ClassCode, fields_of, Method, Line, PlainCode, body_at, parent_of, method_at, constructor_of}
use Rattle.code_instrs.specs.Fit.{Mark, MemberBody, RowIs, Local, CodeFit}
use Rattle.lang_typed.specs.Table.{field_with}
use Rattle.code_scheme.specs.Scheme.{owner_of, after_stmts, method_code, class_code}
use Rattle.code_scheme.specs.Stands.{first_place, BeginsAt}
use Rattle.code_scheme.specs.Whole.{number_in, compiled}
use Rattle.code_scheme.proofs.Tables.{parents_are, method_is, constructor_is}
use Rattle.lang_typed.proofs.Resolved.{typed_is_resolved}
use Rattle.code_scheme.proofs.Whole.{laid_out, members_at}
use Rattle.code_fit.specs.Closed.{Keeps, IsAbove, itself, through_parent, ExtendsCode, RowOf, CodeClosed}
use Rattle.code_fit.specs.Room.{RowTakes, Constructs, Roomy}
use Rattle.code_fit.proofs.Typed.{through, row_there, parent_full, typed_is_roomy}
use Rattle.code_fit.proofs.Lists.{some_is, none_is}
use Rattle.code_fit.proofs.Marks.{mark, reached, Marked, Reach, far, next, stop, cut, top_stmts, stmts_marks, stmts_reach}
use Rattle.code_fit.proofs.Fitting.{TablesFit, Fine, Covers, covers_then, covers_none, covers_if, covers_one, still, is_reached, stmts_first, fit_stmts, Holds, keeps_to}
use Rattle.code_fit.proofs.Bodies.{TakesWithin, Ends, Known, gives_in, body_known, member_body}

abbrev list_at : List (Option Mark) → ℕ → Option Mark
list_at [] p = None
list_at (m ∷ ms) zero = m
list_at (m ∷ ms) (suc p) = list_at ms p

stand_so : (f : ℕ → Option Mark) (ms : List (Option Mark)) (p : ℕ) → ((q : ℕ) → f (p + q) ≡ list_at ms q) → Marked f p ms
stand_so f [] p h = tt
stand_so f (m ∷ ms) p h =
    (ap f (omega arith) ∙ h 0, stand_so f ms (suc p) (λ q. ap f (omega arith) ∙ h (suc q)))

in_list : (ms : List (Option Mark)) (p : ℕ) (m : Mark) → list_at ms p ≡ Some m → p < length ms
in_list [] p m e = absurd (cc)
in_list (x ∷ xs) zero m e = omega arith
in_list (x ∷ xs) (suc p) m e = let r = in_list xs p m e in omega arith

-- a branch takes its part first; after the statements stands an end, where they complete
abbrev begin_marks : Option ℕ → ℕ → List (Option Mark)
begin_marks None r = []
begin_marks (Some x) r = Some (mark 0 (suc r) 0) ∷ []

abbrev body_marks : Option ℕ → TypedStmts → List (Option Mark)
body_marks takes ss = begin_marks takes (top_stmts 1 ss) ++ (stmts_marks 1 0 ss ++ reached (all_complete ss) (mark 0 1 0) ∷ [])

begin_reach : (takes : Option ℕ) (r : ℕ) → Reach 0 (begin_marks takes r) (first_place takes)
begin_reach None r = stop
begin_reach (Some x) r = next stop

-- one body
module _ (C : PlainCode) (P : PlainProgram) (marks : ℕ → ℕ → Option Mark) (gives : ℕ → Bool)
    (tables : TablesFit C P gives) (j : ℕ) where
  First : ℕ → Type 0
  First r = marks j 0 ≡ Some (mark 0 r 0)

  begin_fits : (takes : Option ℕ) (r : ℕ) → BeginsAt C (body_at C j).lines takes → TakesWithin (body_at C j).slots takes →
      Marked (marks j) 0 (begin_marks takes r) → marks j (first_place takes) ≡ Some (mark 0 r 0) → Covers C P marks gives tables j 0 (first_place takes)
  begin_fits None r b w x y = covers_none C P marks gives tables j
  begin_fits (Some k) r b w x y = covers_one C P marks gives tables j b.stands x.0 tt (w, still C P marks gives tables j y)

  begin_first : (takes : Option ℕ) (r : ℕ) → Marked (marks j) 0 (begin_marks takes r) → marks j (first_place takes) ≡ Some (mark 0 r 0) →
      (m : Mark) × (marks j 0 ≡ Some m) × (m.height ≡ 0) × (m.open_entries ≡ 0)
  begin_first None r x y = (_, y, refl, refl)
  begin_first (Some k) r x y = (_, x.0, refl, refl)

  end_fits : (p : ℕ) (ss : TypedStmts) → Ends C P gives j p ss → marks j p ≡ reached (all_complete ss) (mark 0 1 0) → Covers C P marks gives tables j p (suc p)
  end_fits p ss (inl e) x = covers_if C P marks gives tables j _ (all_complete ss) e.1 x (λ c. (e.2, (e.3, refl)))
  end_fits p ss (inr (inl e)) x = covers_if C P marks gives tables j _ (all_complete ss) e.1 x (λ c. (e.2, (e.2, refl)))
  end_fits p ss (inr (inr e)) x =
      record { each = λ q u v. subst (λ q. Fine C P marks gives tables j q) (omega arith) (λ m f. none_is (sym (x ∙ ap (λ t. reached t (mark 0 1 0)) e) ∙ f)) }

  module _ (K : Known C P gives j) (stand : (p : ℕ) → marks j p ≡ list_at (body_marks K.takes K.stmts) p) where
    all_stand : Marked (marks j) 0 (body_marks K.takes K.stmts)
    all_stand = stand_so (marks j) (body_marks K.takes K.stmts) 0 (λ q. ap (λ z. marks j z) (omega arith) ∙ stand q)

    parts : Marked (marks j) 0 (begin_marks K.takes (top_stmts 1 K.stmts)) × Marked (marks j) (first_place K.takes) (stmts_marks 1 0 K.stmts) ×
        (marks j (after_stmts (first_place K.takes) K.stmts) ≡ reached (all_complete K.stmts) (mark 0 1 0))
    parts =
        let u = cut (marks j) _ (begin_reach K.takes (top_stmts 1 K.stmts)) all_stand in
        let v = cut (marks j) _ (stmts_reach K.stmts (first_place K.takes) 1 0) u.1 in
        (u.0, v.0, v.1.0)

    after : all_complete K.stmts ≡ true → marks j (after_stmts (first_place K.takes) K.stmts) ≡ Some (mark 0 1 0)
    after c = is_reached C P marks gives tables j (all_complete K.stmts) _ parts.2 c

    begin : marks j (first_place K.takes) ≡ Some (mark 0 (top_stmts 1 K.stmts) 0)
    begin = stmts_first C P marks gives tables j K.stmts _ _ _ parts.1 after

    pub body_first : (m : Mark) × (marks j 0 ≡ Some m) × (m.height ≡ 0) × (m.open_entries ≡ 0)
    body_first = begin_first K.takes (top_stmts 1 K.stmts) parts.0 begin

    body_covers : Covers C P marks gives tables j 0 (suc (after_stmts (first_place K.takes) K.stmts))
    body_covers =
        covers_then C P marks gives tables j (begin_fits K.takes (top_stmts 1 K.stmts) K.begins K.takes_within parts.0 begin)
        (covers_then C P marks gives tables j
        (fit_stmts C P marks gives tables j K.stmts K.may (first_place K.takes) 1 0 (λ c. (K.member c, refl)) K.fits K.within K.at K.linked parts.1 after)
        (end_fits (after_stmts (first_place K.takes) K.stmts) K.stmts K.ends parts.2))

    pub body_fits : (p : ℕ) → Fine C P marks gives tables j p
    body_fits p m e =
        let n : p < length (body_marks K.takes K.stmts) = in_list (body_marks K.takes K.stmts) p m (sym (stand p) ∙ e) in
        let long : Reach 0 (body_marks K.takes K.stmts) (suc (after_stmts (first_place K.takes) K.stmts)) =
        far (begin_reach K.takes (top_stmts 1 K.stmts)) (far (stmts_reach K.stmts (first_place K.takes) 1 0) (next stop)) in
        let l = long.is in
        body_covers.each p (omega arith) (omega arith) m e

decide : (n j : ℕ) → (j < n) ⊎ (n ≤ j)
decide n j = go (nat_lt j n) refl
  where
    go : (t : Bool) → nat_lt j n ≡ t → (j < n) ⊎ (n ≤ j)
    go true e = inl (ltb-true j n e)
    go false e = inr (let z = ltb-false j n e in grind arith)

-- the rows of the code are those of the program
module _ (P : PlainProgram) where
  class_is : (c : ℕ) → code.class_at (compiled P) c ≡ option_map (class_code P (number_in P)) (class_at P c)
  class_is c = ap (λ ks. slice_get ks c) (laid_out P).classes ∙ slice_get-map (class_code P (number_in P)) P.classes c

  class_there : (c : ℕ) (k : PlainClass) → class_at P c ≡ Some k → (x : ClassCode) × (code.class_at (compiled P) c ≡ Some x)
  class_there c k e = (_, class_is c ∙ ap (λ o. option_map (class_code P (number_in P)) o) e)

  method_all : (c r : ℕ) → method_at (compiled P) c r ≡ option_map (method_code P (number_in P)) (row_at P c r)
  method_all c r = ap (λ k. option_and_then (λ k. slice_get k.methods r) k) (class_is c) ∙ go (class_at P c)
    where
      go : (k : Option PlainClass) →
          option_and_then (λ k. slice_get k.methods r) (option_map (class_code P (number_in P)) k) ≡
          option_map (method_code P (number_in P)) (option_and_then (λ k. slice_get k.rows r) k)
      go None = refl
      go (Some k) = slice_get-map (method_code P (number_in P)) k.rows r

  parent_is : (c : ℕ) (p : PlainParent) → parent_of (compiled P) c ≡ Some p → program.parent_of P c ≡ Some p
  parent_is c p e = sym (ap (λ f. f c) (parents_are (compiled P) P (number_in P) (laid_out P))) ∙ e

  row_is : (c r : ℕ) (y : Bool) → RowGives P c r y → RowIs (compiled P) (gives_in P) c r y
  row_is c r y g = record {
    method = method_code P (number_in P) g.number;
    row = method_is (compiled P) P (number_in P) (laid_out P) c r g.number g.row;
    body = subst (λ z. MemberBody (compiled P) (gives_in P) (number_in P g.number) z) g.kind (member_body P g.number g.member g.is_there);
  }

  takes_below : Roomy P → (r n : ℕ) {d c : ℕ} → IsAbove (compiled P) d c → RowTakes P c r n → RowTakes P d r n
  takes_below roomy r n itself g = g
  takes_below roomy r n {d} (through_parent {p = p} e a) g = roomy.takes d r n p (parent_is d p e) (takes_below roomy r n a g)

  row_takes : Roomy P → (c r n : ℕ) → RowTakes P c r n → (d : ℕ) (m : Method) → IsAbove (compiled P) d c → method_at (compiled P) d r ≡ Some m →
      n < (body_at (compiled P) m.body).slots
  row_takes roomy c r n g d m a e =
      let x = takes_below roomy r n a g in
      let same = ap (λ z. z.body) (some_is (sym (method_is (compiled P) P (number_in P) (laid_out P) d r x.number x.row) ∙ e)) in
      let slots = ap (λ z. (body_at (compiled P) z).slots) (sym same) ∙ (members_at P x.number x.member x.is_there).slots in
      let room = roomy.room x.number x.member x.is_there in
      let many = x.many in
      omega arith

  constructor_takes : Roomy P → (c n : ℕ) → Constructs P c n → (q : ℕ) → constructor_of (compiled P) c ≡ Some q → n < (body_at (compiled P) q).slots
  constructor_takes roomy c n g q e = go (program.constructor_of P c) refl (sym (constructor_is (compiled P) P (number_in P) (laid_out P) c) ∙ e)
    where
      go : (o : Option ℕ) → program.constructor_of P c ≡ o → option_map (number_in P) o ≡ Some q → n < (body_at (compiled P) q).slots
      go None h f = none_is f
      go (Some i) h f =
          let x = g i h in
          let slots = ap (λ z. (body_at (compiled P) z).slots) (sym (some_is f)) ∙ (members_at P i x.0 x.1).slots in
          let room = roomy.room i x.0 x.1 in
          let many = x.2 in
          omega arith

  tables_fit : Roomy P → TablesFit (compiled P) P (gives_in P)
  tables_fit roomy = record {
    calls = row_is;
    takes = λ c r n g d m a e. row_takes roomy c r n g d m a e;
    makes = λ c n g q e. constructor_takes roomy c n g q e;
    classes = class_there;
  }

  -- and the other way, since each row is a member
  row_gives : Roomy P → (c r : ℕ) (y : Bool) → RowIs (compiled P) (gives_in P) c r y → RowGives P c r y
  row_gives roomy c r y g = go (row_at P c r) refl (sym (method_all c r) ∙ g.row)
    where
      go : (o : Option ℕ) → row_at P c r ≡ o → option_map (method_code P (number_in P)) o ≡ Some g.method → RowGives P c r y
      go None q e = none_is e
      go (Some n) q e =
          let m = roomy.rows c r n q in
          let b = member_body P n m.0 m.1 in
          let same : number_in P n ≡ g.method.body = ap (λ z. z.body) (some_is e) in
          record {
            number = n;
            member = m.0;
            row = q;
            is_there = m.1;
            kind = sym b.kind ∙ (ap (λ z. gives_in P z) same ∙ g.body.kind);
          }

  rows_below : Resolved P → Roomy P → (c r : ℕ) (p : PlainParent) (y : Bool) → parent_of (compiled P) c ≡ Some p →
      RowIs (compiled P) (gives_in P) p.class r y → RowIs (compiled P) (gives_in P) c r y
  rows_below resolved roomy c r p y e g =
      row_is c r y (resolved.below c r p y (parent_is c p e) (row_gives roomy p.class r y g))

  constructors_give_none : Resolved P → (c j : ℕ) → constructor_of (compiled P) c ≡ Some j → MemberBody (compiled P) (gives_in P) j false
  constructors_give_none resolved c j e =
      go (program.constructor_of P c) refl (sym (constructor_is (compiled P) P (number_in P) (laid_out P) c) ∙ e)
    where
      go : (o : Option ℕ) → program.constructor_of P c ≡ o → option_map (number_in P) o ≡ Some j → MemberBody (compiled P) (gives_in P) j false
      go None q f = none_is f
      go (Some n) q f =
          let m = resolved.constructors c n q in
          subst (λ z. MemberBody (compiled P) (gives_in P) z false) (some_is f)
          (subst (λ y. MemberBody (compiled P) (gives_in P) (number_in P n) y) m.2 (member_body P n m.0 m.1))

  module _ (resolved : Resolved P) (roomy : Roomy P) where
    abbrev Choice : ℕ → Type 0
    Choice j = (j < length (compiled P).bodies) ⊎ (length (compiled P).bodies ≤ j)

    abbrev marks_when : (j : ℕ) → Choice j → ℕ → Option Mark
    marks_when j (inl l) p = list_at (body_marks (body_known P resolved roomy j l).takes (body_known P resolved roomy j l).stmts) p
    marks_when j (inr g) p = None

    abbrev marks_in : ℕ → ℕ → Option Mark
    marks_in j p = marks_when j (decide (length (compiled P).bodies) j) p

    begins_so : (j : ℕ) → j < length (compiled P).bodies → (m : Mark) × (marks_in j 0 ≡ Some m) × (m.height ≡ 0) × (m.open_entries ≡ 0)
    begins_so j l = go (decide (length (compiled P).bodies) j) (λ p. refl)
      where
        go : (d : Choice j) → ((p : ℕ) → marks_in j p ≡ marks_when j d p) → (m : Mark) × (marks_in j 0 ≡ Some m) × (m.height ≡ 0) × (m.open_entries ≡ 0)
        go (inl k) h = body_first (compiled P) P marks_in (gives_in P) (tables_fit roomy) j (body_known P resolved roomy j k) h
        go (inr k) h = absurd (omega arith)

    lines_fit : (j p : ℕ) → Fine (compiled P) P marks_in (gives_in P) (tables_fit roomy) j p
    lines_fit j p m e = go (decide (length (compiled P).bodies) j) (λ p. refl)
      where
        go : (d : Choice j) → ((p : ℕ) → marks_in j p ≡ marks_when j d p) →
            (l : Line) × (slice_get (body_at (compiled P) j).lines p ≡ Some l) × Local (compiled P) marks_in (gives_in P) j p m l.instr ×
            Holds (compiled P) P marks_in (gives_in P) (tables_fit roomy) j p m l.instr
        go (inl k) h = body_fits (compiled P) P marks_in (gives_in P) (tables_fit roomy) j (body_known P resolved roomy j k) h p m e
        go (inr k) h = none_is (sym (h p) ∙ e)

    lines_keep : (j p : ℕ) (m : Mark) (l : Line) → marks_in j p ≡ Some m → slice_get (body_at (compiled P) j).lines p ≡ Some l →
        Keeps (compiled P) (body_at (compiled P) j) p m l.instr
    lines_keep j p m l e f =
        let x = lines_fit j p m e in
        subst (λ z. Keeps (compiled P) (body_at (compiled P) j) p m z.instr) (some_is (sym x.1 ∙ f))
        (keeps_to (compiled P) P marks_in (gives_in P) (tables_fit roomy) j (λ q. lines_fit j q) p m x.0.instr x.3)

    pub code_is_fit : CodeFit (compiled P)
    code_is_fit = record {
      marks = λ j p. marks_in j p;
      gives = λ j. gives_in P j;
      first = λ j l. begins_so j l;
      line = λ j p m e. (let x = lines_fit j p m e in (x.0, x.1, x.2));
      rows = λ c r p y e g. rows_below resolved roomy c r p y e g;
      constructors = λ c j e. constructors_give_none resolved c j e;
    }

  above_is : {c d : ℕ} → IsBelow P c d → IsAbove (compiled P) c d
  above_is same = itself
  above_is {c} (below {p = p} e b) =
      through_parent (ap (λ f. f c) (parents_are (compiled P) P (number_in P) (laid_out P)) ∙ e) (above_is b)

  row_of : WellTyped P → (c r : ℕ) (m : Method) → method_at (compiled P) c r ≡ Some m → RowOf (compiled P) (gives_in P) c m
  row_of W c r m e = go (row_at P c r) refl (sym (method_all c r) ∙ e)
    where
      go : (o : Option ℕ) → row_at P c r ≡ o → option_map (method_code P (number_in P)) o ≡ Some m → RowOf (compiled P) (gives_in P) c m
      go None q f = none_is f
      go (Some n) q f =
          let x = row_there P W c r n q in
          let owner : x.0.class ≡ m.owner = sym (ap owner_of x.1) ∙ ap (λ z. z.owner) (some_is f) in
          record {
            owner = subst (λ d. IsAbove (compiled P) c d) owner (above_is x.2);
            kind = gives_value x.0;
            body = subst (λ z. MemberBody (compiled P) (gives_in P) z (gives_value x.0)) (ap (λ z. z.body) (some_is f)) (member_body P n x.0 x.1);
          }

  main_is : number_in P P.main_member ≡ (compiled P).main_body
  unfolding compiled
  main_is = refl

  main_member : WellTyped P → MemberBody (compiled P) (gives_in P) (compiled P).main_body true
  main_member W =
      subst (λ z. MemberBody (compiled P) (gives_in P) z true) main_is
      (subst (λ y. MemberBody (compiled P) (gives_in P) (number_in P P.main_member) y) (ap (λ t. not (is_void t)) W.main.result)
      (member_body P P.main_member W.main.member W.main.member_is))

  main_has_room : WellTyped P → 1 < (body_at (compiled P) (compiled P).main_body).slots
  main_has_room W =
      let slots = ap (λ n. (body_at (compiled P) n).slots) (sym main_is) ∙ (members_at P P.main_member W.main.member W.main.member_is).slots in
      let room = (W.members P.main_member W.main.member W.main.member_is).room in
      let many = ap length W.main.formals in
      omega arith

  extends : (W : WellTyped P) (c : ℕ) (p : PlainParent) → parent_of (compiled P) c ≡ Some p → ExtendsCode (compiled P) W.rank c p
  extends W c p e =
      let k = through (class_at P c) (λ k. k.parent) p (parent_is c p e) in
      let x = (W.classes c k.0 k.1).parent p k.2 in
      let own = ap (λ z. length (fields_of z)) (class_is c ∙ ap (λ o. option_map (class_code P (number_in P)) o) k.1) in
      let l = length-map k.0.fields (λ f. first_value f.ty) in
      let m = length-map x.above.fields (λ f. first_value f.ty) in
      let a = length-map x.above.fields (field_with p.args) in
      let n = ap length x.fields in
      let s = length-append (map (field_with p.args) x.above.fields) x.own_fields in
      record {
        before = x.before;
        above = class_code P (number_in P) x.above;
        is = class_is p.class ∙ ap (λ o. option_map (class_code P (number_in P)) o) x.is;
        full = parent_full P k.0 p.args x.args.paths x.full;
        fields = omega arith;
      }

-- the code of a well-typed program is closed
pub typed_is_closed : (P : PlainProgram) → WellTyped P → CodeClosed (compiled P)
unfolding code_is_fit
typed_is_closed P W = record {
  fit = code_is_fit P (typed_is_resolved P W) (typed_is_roomy P W);
  keeps = λ j p m l e f. lines_keep P (typed_is_resolved P W) (typed_is_roomy P W) j p m l e f;
  main = main_member P W;
  main_room = main_has_room P W;
  rows = λ c r m e. row_of P W c r m e;
  order = W.rank;
  parents = λ c p e. extends P W c p e;
}
