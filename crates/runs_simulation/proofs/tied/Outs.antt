-- What a live task of a machine has printed is what its segment of the run prints.
use Rattle.std.proofs.Common.{◌≡◌, ◌⊎◌, inl, inr, ℕ, zero, suc, ◌+◌, false, IsTrue, List, [], ◌∷◌, ◌++◌, length, refl, sym, ap, ap₂, ◌∙◌, subst, arith, append_assoc, append-nil, length-append, Option, Some, None, slice_get}
use Rattle.std.specs.List.{list_all}
use Rattle.std.specs.Prelude.{is_some}
use Rattle.lang_base.specs.declared.place.Place.{Place}
use Rattle.lang_base.specs.declared.value.Trap.{Trap}
use Rattle.lang_meaning.specs.Actions as meaning
use Rattle.code_instrs.specs.Machine.{State, Off}
use Rattle.runs_theory.specs.Actions.{Begin, End, Ending}
use Rattle.runs_theory.specs.Objects.{Path}
use Rattle.runs_theory.specs.Order.{printed, printed_by, trap_in, trapped}
use Rattle.runs_theory.specs.Runs.{Event, Run, Upto, later, mine, now}
use Rattle.runs_theory.proofs.events.Mine.{mine_other, mine_same, mine_upto}
use Rattle.runs_theory.proofs.events.Upto.{upto_trans}
use Rattle.exec_tasks.specs.Join.{or_else, joined_out, unless_trapped}
use Rattle.exec_tasks.specs.Join.{first_trap as first_of}
use Rattle.exec_tasks.specs.Scope.{Branches as Scope, put_end}
use Rattle.exec_tasks.specs.declared.end.TaskEnd.{TaskEnd}
use Rattle.exec_tasks.specs.declared.task.State.{State as Standing}
use Rattle.exec_tasks.specs.declared.task.State.TheVariants.{Running as Runs, Forked}
use Rattle.runs_simulation.proofs.tied.Segments.{Seg, seg_begin, seg_later, seg_own}
use Rattle.runs_simulation.proofs.tied.Sorted.{or_fell, printed_on, printed_step, trapped_on, trapped_step, unless_fell}

-- the begins of the first so many branches, the latest first
pub data BeginsSince (p : Path) : Run → ℕ → Type 0 where
  begins_none : BeginsSince p [] 0
  begins_more : {gs : Run} {b : ℕ} (g : Event) → g.path ≡ p → g.act ≡ Begin b → BeginsSince p gs b → BeginsSince p (g ∷ gs) (suc b)

-- an end tells what its branch has printed, and its trap
pub record EndOut (R : Run) (q : Path) (n b : ℕ) (e : TaskEnd) : Type 0 where
  pub last : Event
  pub before : Run
  pub ending : Ending
  pub act : last.act ≡ End ending
  pub there : Upto (last ∷ before) (mine R ((n, b) ∷ q))
  pub segment : Run
  pub seg : Seg R ((n, b) ∷ q) (last ∷ before) segment
  pub out : e.out ≡ printed segment
  pub trap : e.trap ≡ trapped segment

abbrev pub EndsOut : Run → Path → ℕ → ℕ → List (Option TaskEnd) → Type 0
EndsOut R q n b [] = Unit {0}
EndsOut R q n b (None ∷ es) = EndsOut R q n (suc b) es
EndsOut R q n b (Some e ∷ es) = EndOut R q n b e × EndsOut R q n (suc b) es

-- nothing below it has trapped, or it is about to end with that trap
abbrev pub IsFine : Run → State ℕ (ℕ × ℕ) → Type 0
IsFine S s = (trapped S ≡ None) ⊎ ((f : Trap × Place) × (trapped S ≡ Some f) × (s ≡ Off (meaning.Trapped f.0 f.1)))

pub record OutRuns (R : Run) (p : Path) (s : State ℕ (ℕ × ℕ)) (out : List ℕ) : Type 0 where
  pub segment : Run
  pub seg : Seg R p (mine R p) segment
  pub out_is : out ≡ printed segment
  pub fine : IsFine segment s

pub record OutForks (R : Run) (p : Path) (out : List ℕ) (scope : Scope) : Type 0 where
  pub own : Run
  pub number : ℕ
  pub many : length own ≡ suc number
  pub segment : Run
  pub seg : Seg R p own segment
  pub out_is : out ≡ printed segment
  pub fine : trapped segment ≡ None
  pub since : Run
  pub last : mine R p ≡ since ++ own
  pub begins : BeginsSince p since (length scope.ends)
  pub ends : EndsOut R p number 0 scope.ends

abbrev pub OutLive : Run → Path → State ℕ (ℕ × ℕ) → List ℕ → Standing → Type 0
OutLive R p s out Runs = OutRuns R p s out
OutLive R p s out (Forked scope) = OutForks R p out scope

-- over another task's event
module _ {R : Run} (e : Event) where
  end_out_later : {q : Path} {n b : ℕ} {x : TaskEnd} → EndOut R q n b x → EndOut (e ∷ R) q n b x
  end_out_later {q} {n} {b} h = record {
    last = h.last;
    before = h.before;
    ending = h.ending;
    act = h.act;
    there = upto_trans h.there (mine_upto ((n, b) ∷ q) (later now));
    segment = h.segment;
    seg = seg_later e h.seg;
    out = h.out;
    trap = h.trap;
  }

pub ends_out_later : (R : Run) (e : Event) (q : Path) (n b : ℕ) (es : List (Option TaskEnd)) → EndsOut R q n b es → EndsOut (e ∷ R) q n b es
ends_out_later R e q n b [] h = tt
ends_out_later R e q n b (None ∷ es) h = ends_out_later R e q n (suc b) es h
ends_out_later R e q n b (Some x ∷ es) h = (end_out_later e h.0, ends_out_later R e q n (suc b) es h.1)

pub out_later : (R : Run) (e : Event) (p : Path) (s : State ℕ (ℕ × ℕ)) (out : List ℕ) (x : Standing) → (e.path ≡ p → ⊥) → OutLive R p s out x → OutLive (e ∷ R) p s out x
out_later R e p s out Runs apart h = record {
  segment = h.segment;
  seg = subst (λ l. Seg (e ∷ R) p l h.segment) (sym (mine_other e R p apart)) (seg_later e h.seg);
  out_is = h.out_is;
  fine = h.fine;
}
out_later R e p s out (Forked scope) apart h = record {
  own = h.own;
  number = h.number;
  many = h.many;
  segment = h.segment;
  seg = seg_later e h.seg;
  out_is = h.out_is;
  fine = h.fine;
  since = h.since;
  last = mine_other e R p apart ∙ h.last;
  begins = h.begins;
  ends = ends_out_later R e p h.number 0 scope.ends h.ends;
}

-- one branch more, and an end of a branch
pub ends_out_more : (R : Run) (q : Path) (n b : ℕ) (es : List (Option TaskEnd)) → EndsOut R q n b es → EndsOut R q n b (es ++ None ∷ [])
ends_out_more R q n b [] h = tt
ends_out_more R q n b (None ∷ es) h = ends_out_more R q n (suc b) es h
ends_out_more R q n b (Some e ∷ es) h = (h.0, ends_out_more R q n (suc b) es h.1)

pub ends_out_put : (R : Run) (q : Path) (n b : ℕ) (es : List (Option TaskEnd)) (i : ℕ) (how : TaskEnd) → EndsOut R q n b es → slice_get es i ≡ Some None
    → EndOut R q n (b + i) how → EndsOut R q n b (put_end es i how)
ends_out_put R q n b [] i how h e x = tt
ends_out_put R q n b (None ∷ es) zero how h e x = (subst (λ c. EndOut R q n c how) (omega arith) x, h)
ends_out_put R q n b (Some y ∷ es) zero how h e x = h
ends_out_put R q n b (None ∷ es) (suc i) how h e x = ends_out_put R q n (suc b) es i how h e (subst (λ c. EndOut R q n c how) (omega arith) x)
ends_out_put R q n b (Some y ∷ es) (suc i) how h e x = (h.0, ends_out_put R q n (suc b) es i how h.1 e (subst (λ c. EndOut R q n c how) (omega arith) x))

-- all branches, one after another
data Snoc : List (Option TaskEnd) → Type 0 where
  snoc_none : Snoc []
  snoc_more : {es : List (Option TaskEnd)} (e : Option TaskEnd) → Snoc es → Snoc (es ++ e ∷ [])

snoc_of : (es : List (Option TaskEnd)) → Snoc es
snoc_of es = go [] es snoc_none
  where
    go : (xs ys : List (Option TaskEnd)) → Snoc xs → Snoc (xs ++ ys)
    go xs [] s = subst Snoc (sym (append-nil xs)) s
    go xs (y ∷ ys) s = subst Snoc (append_assoc xs (y ∷ []) ys) (go (xs ++ y ∷ []) ys (snoc_more y s))

trap_snoc : (es : List (Option TaskEnd)) (e : TaskEnd) → first_of (es ++ Some e ∷ []) ≡ or_fell (first_of es) e.trap
trap_snoc [] e = go e.trap
  where
    go : (o : Option (Trap × Place)) → or_else o None ≡ or_fell None o
    go None = refl
    go (Some f) = refl
trap_snoc (None ∷ es) e = trap_snoc es e
trap_snoc (Some x ∷ es) e = ap (λ o. or_else x.trap o) (trap_snoc es e) ∙ go x.trap
  where
    go : (o : Option (Trap × Place)) → or_else o (or_fell (first_of es) e.trap) ≡ or_fell (or_else o (first_of es)) e.trap
    go None = refl
    go (Some f) = refl

out_snoc : (es : List (Option TaskEnd)) (e : TaskEnd) → joined_out (es ++ Some e ∷ []) ≡ joined_out es ++ unless_fell (first_of es) e.out
out_snoc [] e = go e.trap
  where
    go : (o : Option (Trap × Place)) → e.out ++ unless_trapped o [] ≡ e.out
    go None = append-nil e.out
    go (Some f) = append-nil e.out
out_snoc (None ∷ es) e = out_snoc es e
out_snoc (Some x ∷ es) e = ap (λ l. x.out ++ unless_trapped x.trap l) (out_snoc es e) ∙ go x.trap
  where
    go : (o : Option (Trap × Place)) → x.out ++ unless_trapped o (joined_out es ++ unless_fell (first_of es) e.out)
        ≡ (x.out ++ unless_trapped o (joined_out es)) ++ unless_fell (or_else o (first_of es)) e.out
    go None = sym (append_assoc x.out (joined_out es) (unless_fell (first_of es) e.out))
    go (Some f) = sym (append-nil (x.out ++ []))

pub record AllOut (R : Run) (p : Path) (own gs : Run) (S : Run) (es : List (Option TaskEnd)) : Type 0 where
  pub segment : Run
  pub seg : Seg R p (gs ++ own) segment
  pub out : printed segment ≡ printed S ++ joined_out es
  pub trap : trapped segment ≡ first_of es

split_ends : (R : Run) (p : Path) (n b : ℕ) (es : List (Option TaskEnd)) (e : Option TaskEnd) → EndsOut R p n b (es ++ e ∷ []) → EndsOut R p n b es × EndsOut R p n (b + length es) (e ∷ [])
split_ends R p n b [] e h = (tt, subst (λ c. EndsOut R p n c (e ∷ [])) (omega arith) h)
split_ends R p n b (None ∷ es) e h = (let r = split_ends R p n (suc b) es e h in (r.0, subst (λ c. EndsOut R p n c (e ∷ [])) (omega arith) r.1))
split_ends R p n b (Some x ∷ es) e h = (let r = split_ends R p n (suc b) es e h.1 in ((h.0, r.0), subst (λ c. EndsOut R p n c (e ∷ [])) (omega arith) r.1))

split_all : (es : List (Option TaskEnd)) (e : Option TaskEnd) → IsTrue (list_all is_some (es ++ e ∷ [])) → IsTrue (list_all is_some es) × ((x : TaskEnd) × (e ≡ Some x))
split_all [] None h = absurd (let no : IsTrue false = h in cc)
split_all [] (Some x) h = (refl, (x, refl))
split_all (None ∷ es) e h = absurd (let no : IsTrue false = h in cc)
split_all (Some y ∷ es) e h = split_all es e h

snoc_many : (es : List (Option TaskEnd)) (e : Option TaskEnd) → length (es ++ e ∷ []) ≡ suc (length es)
snoc_many es e = (let a = length-append es (e ∷ []) in omega (arith, a))

-- the last begin of some
record LastBegin (p : Path) (gs : Run) (b : ℕ) : Type 0 where
  begin : Event
  rest : Run
  is : gs ≡ begin ∷ rest
  path : begin.path ≡ p
  act : begin.act ≡ Begin b
  others : BeginsSince p rest b

last_begin : {p : Path} {gs : Run} {m : ℕ} (b : ℕ) → BeginsSince p gs m → m ≡ suc b → LastBegin p gs b
last_begin b begins_none e = absurd (omega (arith, e))
last_begin {p} b (begins_more {gs = gs} {b = c} g a d h) e =
    let same : c ≡ b = omega (arith, e) in
    record { begin = g; rest = gs; is = refl; path = a; act = d ∙ ap (λ (n : ℕ). Begin n) same; others = subst (λ n. BeginsSince p gs n) same h }

no_begins : {p : Path} {gs : Run} {m : ℕ} → BeginsSince p gs m → m ≡ 0 → gs ≡ []
no_begins begins_none e = refl
no_begins (begins_more g a d h) e = absurd (omega (arith, e))

all_out : (R : Run) (p : Path) (own S : Run) (n : ℕ) → length own ≡ suc n → Seg R p own S → trapped S ≡ None → {es : List (Option TaskEnd)} → Snoc es → (gs : Run)
    → BeginsSince p gs (length es) → IsTrue (list_all is_some es) → EndsOut R p n 0 es → AllOut R p own gs S es
all_out R p own S n many seg fine snoc_none gs begins all h = record {
  segment = S;
  seg = subst (λ l. Seg R p (l ++ own) S) (sym (no_begins begins refl)) seg;
  out = sym (append-nil (printed S));
  trap = fine;
}
all_out R p own S n many seg fine (snoc_more {es = es} e s) gs begins all h =
    let B = last_begin (length es) begins (snoc_many es e) in
    let a = split_all es e all in
    let k = split_ends R p n 0 es e h in
    more B a.1 (subst (λ o. EndsOut R p n (0 + length es) (o ∷ [])) a.1.1 k.1).0 (all_out R p own S n many seg fine s B.rest B.others a.0 k.0) (rest_many B)
  where
    begins_length : {gs : Run} {b : ℕ} → BeginsSince p gs b → length gs ≡ b
    begins_length begins_none = refl
    begins_length (begins_more g a d h) = ap (λ n. suc n) (begins_length h)

    rest_many : (B : LastBegin p gs (length es)) → length (B.rest ++ own) ≡ suc (n + (0 + length es))
    rest_many B = (let a = length-append B.rest own in let b = begins_length B.others in omega (arith, a, b, many))

    more : (B : LastBegin p gs (length es)) → (a : (x : TaskEnd) × (e ≡ Some x)) → EndOut R p n (0 + length es) a.0 → AllOut R p own B.rest S es
        → length (B.rest ++ own) ≡ suc (n + (0 + length es)) → AllOut R p own gs S (es ++ e ∷ [])
    more B a E A len = record {
      segment = E.segment ++ B.begin ∷ A.segment;
      seg = subst (λ l. Seg R p (l ++ own) (E.segment ++ B.begin ∷ A.segment)) (sym B.is)
          (seg_begin B.begin n (0 + length es) E.last E.ending B.path (B.act ∙ ap (λ (c : ℕ). Begin c) (omega arith)) len E.act E.there E.seg A.seg);
      out = printed_on E.segment (B.begin ∷ A.segment)
          ∙ ap₂ (λ l o. l ++ unless_fell o (printed E.segment)) (printed_step B.begin A.segment ∙ ap (λ c. printed A.segment ++ printed_by c (trapped A.segment)) B.act ∙ append-nil (printed A.segment) ∙ A.out)
          (trapped_step B.begin A.segment ∙ ap (λ c. trap_in c (trapped A.segment)) B.act ∙ A.trap)
          ∙ append_assoc (printed S) (joined_out es) (unless_fell (first_of es) (printed E.segment))
          ∙ ap (λ l. printed S ++ l) (ap (λ l. joined_out es ++ unless_fell (first_of es) l) (sym E.out) ∙ sym (out_snoc es a.0) ∙ ap (λ o. joined_out (es ++ o ∷ [])) (sym a.1));
      trap = trapped_on E.segment (B.begin ∷ A.segment)
          ∙ ap₂ (λ o r. or_fell o r) (trapped_step B.begin A.segment ∙ ap (λ c. trap_in c (trapped A.segment)) B.act ∙ A.trap) (sym E.trap)
          ∙ sym (trap_snoc es a.0) ∙ ap (λ o. first_of (es ++ o ∷ [])) (sym a.1);
    }

-- at a join
pub out_joined : (R : Run) (p : Path) (out : List ℕ) (scope : Scope) → OutForks R p out scope → IsTrue (list_all is_some scope.ends) → (O : Run)
    × Seg R p (mine R p) O × (out ++ joined_out scope.ends ≡ printed O) × (trapped O ≡ first_of scope.ends)
out_joined R p out scope F all =
    let A = all_out R p F.own F.segment F.number F.many F.seg F.fine (snoc_of scope.ends) F.since F.begins all F.ends in
    (A.segment, subst (λ l. Seg R p l A.segment) (sym F.last) A.seg, ap (λ l. l ++ joined_out scope.ends) F.out_is ∙ sym A.out, A.trap)

-- one event more of its own
pub seg_with : {R : Run} {p : Path} {s : State ℕ (ℕ × ℕ)} {out : List ℕ} (e : Event) → e.path ≡ p → ((b : ℕ) → e.act ≡ Begin b → ⊥) → (H : OutRuns R p s out)
    → Seg (e ∷ R) p (mine (e ∷ R) p) (e ∷ H.segment)
seg_with {R} {p} e is begins H = subst (λ l. Seg (e ∷ R) p l (e ∷ H.segment)) (sym (mine_same e R p is)) (seg_own e is begins (seg_later e H.seg))

pub fine_none : (S : Run) (s : State ℕ (ℕ × ℕ)) → IsFine S s → ((f : Trap × Place) → s ≡ Off (meaning.Trapped f.0 f.1) → ⊥) → trapped S ≡ None
fine_none S s (inl h) off = h
fine_none S s (inr h) off = absurd (off h.0 h.2)
