-- The member that an object's own class has in a row stands in for that of its static class.
use Rattle.std.proofs.Common.{◌≡◌, ◌<◌, inl, inr, ℕ, zero, suc, ◌+◌, true, List, [], ◌∷◌, ◌++◌, map, length, refl, sym, ap, ◌∙◌, subst, arith, Some, None, IsTrue, slice_get, slice_index_or}
use Rattle.std.specs.Prelude.{All, option_and_then, pos}
use Rattle.std.specs.List.{AllZip}
use Rattle.std.proofs.lemmas.List.{append-nil, get_or_append_left, get_or-append-add, length-append}
use Rattle.std.proofs.lemmas.List.Elements.{All-head, All-tail, All-map, All-append, All-cons}
use Rattle.std.proofs.lemmas.Bool.{and_parts, and_from, false≢true}
use Rattle.lang_base.specs.declared.effect.Constraint.{Constraint}
use Rattle.lang_base.specs.declared.effect.Effect.{Effect}
use Rattle.lang_base.specs.declared.elems.Elem.{Elem}
use Rattle.lang_base.specs.declared.region.Head.{Head}
use Rattle.lang_base.specs.declared.region.Head.TheVariants.{Root, Param}
use Rattle.lang_base.specs.declared.region.Rpl.{Rpl}
use Rattle.lang_base.specs.Apart.{apart}
use Rattle.lang_base.specs.Matching.{Env, Holds, put_in}
use Rattle.lang_base.specs.Regions.{is_specified, all_specified, fully_specified, argument, put_at, substituted}
use Rattle.lang_base.specs.Types.{PlainType, type_with, SameType}
use Rattle.lang_typed.specs.Effects.{does, effect_with}
use Rattle.lang_typed.specs.Plain.{PlainProgram, PlainClass, PlainMember, PlainParent}
use Rattle.lang_typed.specs.Scope.{member_at, row_at, parent_of, Above, itself, through_parent}
use Rattle.lang_typed.specs.Table.{Extends, params_from, method_paths, member_scope, constraint_with, Overrides, KeepsRow, GoodMember, RowIsThere}
use Rattle.lang_typed.specs.Types.{GoodType}
use Rattle.lang_typed.specs.WellTyped.{WellTyped}
use Rattle.lang_meaning.specs.Regions.{concrete}
use Rattle.region_paths.proofs.Putting.{specified_matches_one, substitution_puts_in}
use Rattle.runs_theory.specs.Objects.{Region}
use Rattle.runs_program.specs.Steps.{named_by}
use Rattle.runs_sound.specs.Settings.{elems_of, region_in, ArePlain, class_setting, class_env}
use Rattle.runs_sound.specs.Shapes.{regions_of_parent, Is, same, up, GoodObject, SameIn}
use Rattle.runs_sound.specs.Accesses.{Access, LiesIn}
use Rattle.runs_sound.proofs.scopes.Closed.{ClosedPath, ClosedType, closed_put, closed_path, closed_type}
use Rattle.runs_sound.proofs.scopes.Codes.{setting_env, unmade_one}
use Rattle.runs_sound.proofs.classes.Types.{same_refl, same_sym, same_trans, same_type, NoOwn, Stands, same_with}
use Rattle.runs_sound.proofs.classes.Classes.{path_alone, class_concrete, alone_put, arguments_alone, all_get, parent_extends, parent_closed, good_parent, good_is}
use Rattle.runs_sound.proofs.classes.Chains.{parent_lower, is_lower, above_lower, same_parent, is_from_below}
use Rattle.runs_sound.proofs.paths.Effects.{summary_lies, lies_down}

-- fully specified arguments that are these regions with an environment put in
pub record Shown (env : Env) (args : List Rpl) (rs : List Region) : Type 0 where
  pub puts : AllZip (λ a r. elems_of r ≡ (put_in env a).elems) args rs
  pub alone : All (λ a. All NoOwn a.elems) args
  pub full : All (λ a. IsTrue (fully_specified a)) args

puts_at : (env : Env) (args : List Rpl) (rs : List Region) (p : ℕ) (b : Rpl) → AllZip (λ a r. elems_of r ≡ (put_in env a).elems) args rs → p < length args →
    region_in rs p ≡ (put_in env (slice_index_or args p b)).elems
puts_at env [] rs p b m l = absurd (omega (arith, l))
puts_at env (a ∷ args) [] p b m l = absurd m
puts_at env (a ∷ args) (r ∷ rs) zero b m l = m.0
puts_at env (a ∷ args) (r ∷ rs) (suc p) b m l = puts_at env args rs p b m.1 (omega (arith, l))

puts_length : (env : Env) (args : List Rpl) (rs : List Region) → AllZip (λ a r. elems_of r ≡ (put_in env a).elems) args rs → length args ≡ length rs
puts_length env [] [] m = refl
puts_length env [] (r ∷ rs) m = absurd m
puts_length env (a ∷ args) [] m = absurd m
puts_length env (a ∷ args) (r ∷ rs) m = ap (λ n. suc n) (puts_length env args rs m.1)

puts_both : (env : Env) (as' bs : List Rpl) (rs qs : List Region) → AllZip (λ a r. elems_of r ≡ (put_in env a).elems) as' rs →
    AllZip (λ a r. elems_of r ≡ (put_in env a).elems) bs qs →
    AllZip (λ a r. elems_of r ≡ (put_in env a).elems) (as' ++ bs) (rs ++ qs)
puts_both env [] bs [] qs m n = n
puts_both env [] bs (r ∷ rs) qs m n = absurd m
puts_both env (a ∷ as') bs [] qs m n = absurd m
puts_both env (a ∷ as') bs (r ∷ rs) qs m n = (m.0, puts_both env as' bs rs qs m.1 n)

pub shown_both : {env : Env} {as' bs : List Rpl} {rs qs : List Region} → Shown env as' rs → Shown env bs qs → Shown env (as' ++ bs) (rs ++ qs)
shown_both {env} {as'} {bs} {rs} {qs} s t = record {
  puts = puts_both env as' bs rs qs s.puts t.puts;
  alone = All-append (λ a. All NoOwn a.elems) as' bs s.alone t.alone;
  full = All-append (λ a. IsTrue (fully_specified a)) as' bs s.full t.full;
}

full_argument : (args : List Rpl) → All (λ a. IsTrue (fully_specified a)) args → (p : ℕ) (b : Rpl) → fully_specified b ≡ true →
    fully_specified (slice_index_or args p b) ≡ true
full_argument [] h p b e = e
full_argument (a ∷ args) h zero b e = All-head (λ a. IsTrue (fully_specified a)) a args h
full_argument (a ∷ args) h (suc p) b e = full_argument args (All-tail (λ a. IsTrue (fully_specified a)) a args h) p b e

pub full_arguments : (args : List Rpl) → All (λ a. IsTrue (fully_specified a)) args → (p : ℕ) → fully_specified (argument args p) ≡ true
full_arguments args h p = full_argument args h p (record { head = Param p; elems = [] }) refl

specified_both : (xs ys : List Elem) → all_specified xs ≡ true → all_specified ys ≡ true → all_specified (xs ++ ys) ≡ true
specified_both [] ys h k = k
specified_both (x ∷ xs) ys h k = let p = and_parts (is_specified x) _ h in and_from _ _ p.0 (specified_both xs ys p.1 k)

full_at : (args : List Rpl) → All (λ a. IsTrue (fully_specified a)) args → (h : Head) (a : List Elem) → all_specified a ≡ true →
    all_specified (put_at h a args).elems ≡ true
full_at args f Root a s = s
full_at args f (Param p) a s = specified_both (argument args p).elems a (full_arguments args f p) s

full_put : (args : List Rpl) → All (λ a. IsTrue (fully_specified a)) args → (a : Rpl) → fully_specified a ≡ true → fully_specified (substituted args a) ≡ true
unfolding substituted
full_put args f a s = full_at args f a.head a.elems s

pub shown_stands : (depth : ℕ) {env : Env} {args : List Rpl} {rs : List Region} → Shown env args rs → (env.own ≡ λ d. pos 0) →
    Stands (length rs) depth env (class_env rs) args
shown_stands depth {env} {args} {rs} s o = record {
  match = λ p l. (specified_matches_one env (argument args p) (full_arguments args s.full p) _).1
      (puts_at env args rs p (record { head = Param p; elems = [] }) s.puts (let e = puts_length env args rs s.puts in omega (arith, e, l)));
  alone = λ p l. arguments_alone args s.alone p;
  own = λ d l. ap (λ f. f d) o;
}

-- a path with the arguments put in is the same as with the regions
pub shown_put : {env : Env} {args : List Rpl} {rs : List Region} → Shown env args rs → (a : Rpl) → ClosedPath (length rs) 0 a →
    put_in env (substituted args a) ≡ put_in (class_env rs) a
shown_put {env} {args} {rs} s a c =
    substitution_puts_in env args a
    ∙ closed_put (length rs) 0 _ (class_env rs)
    (record {
      region = λ p l. sym (puts_at env args rs p (record { head = Param p; elems = [] }) s.puts
          (let e = puts_length env args rs s.puts in omega (arith, e, l)));
      own = λ d l. absurd (omega (arith, l));
    }) a c

-- parameters from one on are the regions that stand there
params_shown : (whole : List Region) (j : ℕ) (ys : List Region) → ((i : ℕ) → i < length ys → slice_index_or whole (j + i) [] ≡ slice_index_or ys i []) →
    Shown (class_env whole) (params_from j (length ys)) ys
unfolding put_in
params_shown whole j [] h = record { puts = tt; alone = λ k d l. absurd (omega (arith, l)); full = λ k d l. absurd (omega (arith, l)) }
params_shown whole j (y ∷ ys) h =
    let at : slice_index_or whole j [] ≡ y = (let z : j + 0 ≡ j = omega arith in ap (λ n. slice_index_or whole n []) (sym z) ∙ h 0 (omega arith)) in
    let rest = params_shown whole (suc j) ys (λ i l. (let z : suc j + i ≡ j + suc i = omega arith in ap (λ n. slice_index_or whole n []) z ∙ h (suc i) (omega (arith, l)))) in
    record {
      puts = (ap elems_of (sym at) ∙ sym (append-nil (elems_of (slice_index_or whole j []))), rest.puts);
      alone = All-cons (λ a. All NoOwn a.elems) (record { head = Param j; elems = [] }) (params_from (suc j) (length ys)) (λ k d l. absurd (omega (arith, l))) rest.alone;
      full = All-cons (λ a. IsTrue (fully_specified a)) (record { head = Param j; elems = [] }) (params_from (suc j) (length ys)) refl rest.full;
    }

pub class_params : (rs own : List Region) → Shown (class_env (rs ++ own)) (params_from 0 (length rs)) rs
class_params rs own = params_shown (rs ++ own) 0 rs (λ i l. (let z : 0 + i ≡ i = omega arith in ap (λ n. slice_index_or (rs ++ own) n []) z ∙ get_or_append_left rs own [] i l))

pub method_params : (rs own : List Region) → Shown (class_env (rs ++ own)) (params_from (length rs) (length own)) own
method_params rs own = params_shown (rs ++ own) (length rs) own (λ i l. get_or-append-add rs own i [])

module _ (P : PlainProgram) (wt : WellTyped P) where
  -- what arguments are stays so in a class above
  above_shown : (env : Env) {c c' d d' : ℕ} {args owned : List Rpl} {rs qs : List Region} → Above P c args d owned → Is P c' rs d' qs → c ≡ c' →
      d ≡ d' → GoodObject P c rs →
      Shown env args rs → Shown env owned qs
  above_shown env itself same e1 e2 g s = s
  above_shown env itself (up e h) e1 e2 g s = absurd (let a = parent_lower P wt e in let b = is_lower P wt h in let c = ap wt.rank e1 in let d = ap wt.rank e2 in omega (arith, a, b, c, d))
  above_shown env (through_parent e a) same e1 e2 g s = absurd (let x = parent_lower P wt e in let b = above_lower P wt a in let c = ap wt.rank e1 in let d = ap wt.rank e2 in omega (arith, x, b, c, d))
  above_shown env {c = c} {args = args} {rs = rs} {qs = qs} (through_parent {p = p} e a) (up {c = c''} {p = q} f h) e1 e2 g s =
      let x = parent_extends P wt g.is e in
      let n : length g.class.params ≡ length rs = sym g.arity in
      let cl = subst (λ n. All (ClosedPath n 0) p.args) n (parent_closed P wt c g.class p x) in
      let z = same_parent P wt c (subst (λ y. parent_of P y ≡ Some q) (sym e1) f) e in
      above_shown env a (subst (λ (r : PlainParent). Is P r.class (regions_of_parent rs r) c'' qs) z h) refl e2 (good_parent P wt g e)
      (record {
        puts = put p.args cl;
        alone = All-map (λ a. All NoOwn a.elems) (substituted args) p.args (λ j d l. alone_put args s.alone _ (path_alone (length rs) _ (cl j d l)));
        full = All-map (λ a. IsTrue (fully_specified a)) (substituted args) p.args (λ j d l. full_put args s.full _ (x.full j d l));
      })
    where
      put : (ps : List Rpl) → All (ClosedPath (length rs) 0) ps →
          AllZip (λ a r. elems_of r ≡ (put_in env a).elems) (map (substituted args) ps)
          (map (λ a. concrete (named_by []) (record { values = []; regions = rs; locals = [] }) a) ps)
      put [] cl = tt
      put (b ∷ ps) cl =
          let c0 = All-head (ClosedPath (length rs) 0) b ps cl in
          (class_concrete (length rs) rs b c0 ∙ ap (λ (z : Rpl). z.elems) (sym (shown_put s b c0)), put ps (All-tail (ClosedPath (length rs) 0) b ps cl))

  -- a member that an object of a class has, with the regions of its own class
  pub record MemberAt (c : ℕ) (rs : List Region) (n : ℕ) : Type 0 where
    pub member : PlainMember
    pub there : member_at P n ≡ Some member
    pub regions : List Region
    pub is_one : Is P c rs member.class regions

  pub row_there : (c r n : ℕ) (rs : List Region) → GoodObject P c rs → row_at P c r ≡ Some n → MemberAt c rs n
  row_there c r n rs g e =
      let row : slice_get g.class.rows r ≡ Some n = sym (ap (λ z. option_and_then (λ (class : PlainClass). slice_get class.rows r) z) g.is) ∙ e in
      let z : RowIsThere P c n = all_get (RowIsThere P c) g.class.rows r n (wt.classes c g.class g.is).rows row in
      let i = is_from_below P wt z.2 rs in
      record { member = z.0; there = z.1; regions = i.0; is_one = i.1 }

  -- the second member at its regions may stand for the first one at its, where its own region parameters are these
  pub record StandsFor (own : List Region) (m : PlainMember) (rs : List Region) (w : PlainMember) (qs : List Region) : Type 0 where
    pub params : w.params ≡ m.params
    pub given : All (Holds (class_env (rs ++ own))) m.given → All (Holds (class_env (qs ++ own))) w.given
    pub formals : (x : ℕ) (t : PlainType) → slice_get w.formals x ≡ Some t →
        (u : PlainType) × (slice_get m.formals x ≡ Some u) × SameIn (class_env (rs ++ own)) u (class_env (qs ++ own)) t
    pub result : SameIn (class_env (qs ++ own)) w.result (class_env (rs ++ own)) m.result
    pub effects : (a : Access) → LiesIn (class_setting (qs ++ own)) (map (λ e. does e) w.summary) a →
        LiesIn (class_setting (rs ++ own)) (map (λ e. does e) m.summary) a

  stands_refl : (own : List Region) (m : PlainMember) (rs : List Region) → StandsFor own m rs m rs
  stands_refl own m rs = record {
    params = refl;
    given = λ h. h;
    formals = λ x t e. (t, e, same_refl (class_env (rs ++ own)) t);
    result = same_refl
        (class_env (rs ++ own)) m.result;
    effects = λ a l. l;
  }

  stands_trans : {own : List Region} {m w u : PlainMember} {rs qs ps : List Region} → StandsFor own m rs w qs → StandsFor own w qs u ps →
      StandsFor own m rs u ps
  stands_trans {own} {m} {w} {u} {rs} {qs} {ps} s z = record {
    params = z.params ∙ s.params;
    given = λ h. z.given (s.given h);
    formals = λ x t e. (let a = z.formals x t e in let b = s.formals x a.0 a.1 in (
      b.0,
      b.1,
      same_trans (class_env (rs ++ own)) b.0
          (class_env (qs ++ own)) a.0 (class_env (ps ++ own)) t b.2 a.2,
    ));
    result = same_trans (class_env (ps ++ own)) u.result (class_env (qs ++ own)) w.result (class_env (rs ++ own)) m.result z.result s.result;
    effects = λ a l. s.effects a (z.effects a l);
  }

  zip_at : (f : PlainType → PlainType) (ts us : List PlainType) → AllZip SameType ts (map f us) → (x : ℕ) (t : PlainType) → slice_get ts x ≡ Some t →
      (u : PlainType) × (slice_get us x ≡ Some u) × SameType t (f u)
  zip_at f [] us h x t e = absurd (let q : None ≡ Some t = e in cc)
  zip_at f (s ∷ ts) [] h x t e = absurd h
  zip_at f (s ∷ ts) (u ∷ us) h zero t e = let q : s ≡ t = cc in (u, refl, subst (λ z. SameType z (f u)) q h.0)
  zip_at f (s ∷ ts) (u ∷ us) h (suc x) t e = zip_at f ts us h.1 x t e

  -- of a member at an object: its types, constraints and effects are over the region parameters that its class and itself have
  pub record Signature (m : PlainMember) (n : ℕ) : Type 0 where
    pub formals : (x : ℕ) (t : PlainType) → slice_get m.formals x ≡ Some t → ClosedType n 0 t
    pub result : ClosedType n 0 m.result
    pub given : All (λ (c : Constraint). ClosedPath n 0 c.left × ClosedPath n 0 c.right) m.given
    pub summary : All (λ (e : Effect). ClosedPath n 0 e.rpl) m.summary

  pub signature_at : {c : ℕ} {rs : List Region} (n : ℕ) (A : MemberAt c rs n) (own : List Region) → GoodObject P c rs →
      length own ≡ length A.member.params → Signature A.member (length (A.regions ++ own))
  signature_at n A own g lo = subst (Signature A.member) (sym long) (record {
    formals = λ x t e. closed_type P (member_scope gm.class A.member) (λ y. refl) (λ r z. false≢true z) 0 t
        (all_get (GoodType P (member_scope gm.class A.member) 0) A.member.formals x t gm.formals e);
    result = elim gm.result [
      | inl v ↦ subst (ClosedType (length (gm.class.params ++ A.member.params)) 0) (sym v) tt
      | inr r ↦ closed_type P (member_scope gm.class A.member) (λ y. refl) (λ r z. false≢true z) 0 A.member.result r
    ];
    given = λ k d l. (let z = gm.given k d l in (
      closed_path P (member_scope gm.class A.member) (λ y. refl) 0 _ z.0,
      closed_path P
          (member_scope gm.class A.member) (λ y. refl) 0 _ z.1,
    ));
    summary = λ k d l. closed_path P (member_scope gm.class A.member) (λ y. refl) 0 _ (gm.summary k d l);
  })
    where
      gm : GoodMember P wt.member_nd_free n A.member
      gm = wt.members n A.member A.there

      long : length (A.regions ++ own) ≡ length (gm.class.params ++ A.member.params)
      long =
          let ga = good_is P wt A.is_one g in
          let z : Some ga.class ≡ Some gm.class = sym ga.is ∙ gm.is in
          let k : ga.class ≡ gm.class = cc in
          let a : length A.regions ≡ length gm.class.params = ga.arity ∙ ap (λ (y : PlainClass). length y.params) k in
          length-append A.regions own ∙ (λ i. a i + lo i) ∙ sym (length-append gm.class.params A.member.params)

  -- a member of the class that overrides one of a class above it
  overrides : (d : ℕ) (rs own : List Region) (g : GoodObject P d rs) → ArePlain (rs ++ own) → (n : ℕ) (A : MemberAt d rs n) (w : PlainMember) →
      Overrides P d g.class w A.member → length own ≡ length A.member.params →
      StandsFor own A.member A.regions w rs
  overrides d rs own g plain n A w o lo = record {
    params = o.params;
    given = λ h. subst (λ z. All (Holds outer) z) (sym o.given) (All-map (Holds outer) (constraint_with σ) A.member.given (λ k c l. holds _ (sig.given k c l) (h k c l)));
    formals = λ x t e. (let z = zip_at (type_with σ) w.formals A.member.formals o.formals x t e in
        (z.0, z.1, same_sym outer t inner z.0 (same_trans outer t outer (type_with σ z.0) inner z.0 (same_type outer t (type_with σ z.0) z.2) (same_with N 0 outer inner σ st z.0 (sig.formals x z.0 z.1) (λ p _. full p)))));
    result = same_trans outer w.result outer (type_with σ A.member.result) inner A.member.result (same_type outer w.result (type_with σ A.member.result) o.result)
        (same_with N 0 outer inner σ st A.member.result sig.result (λ p _. full p));
    effects = λ a l. lies_down N (class_setting (rs ++ own)) (class_setting (A.regions ++ own)) σ st full a A.member.summary sig.summary
        (summary_lies (class_setting (rs ++ own)) (setting_env [] (class_setting (rs ++ own)) plain unmade_one (λ k c l. absurd (omega (arith, l)))) a
        (map (effect_with σ) A.member.summary) w.summary o.covered l);
  }
    where
      outer : Env
      outer = class_env (rs ++ own)

      inner : Env
      inner = class_env (A.regions ++ own)

      σ : List Rpl
      σ = o.seen ++ method_paths g.class A.member

      N : ℕ
      N = length (A.regions ++ own)

      sig : Signature A.member (length (A.regions ++ own))
      sig = signature_at n A own g lo

      shown : Shown (class_env (rs ++ own)) (o.seen ++ method_paths g.class A.member) (A.regions ++ own)
      shown = shown_both
          (above_shown (class_env (rs ++ own)) o.sees A.is_one refl refl g
          (subst (λ n. Shown (class_env (rs ++ own)) (params_from 0 n) rs) g.arity (class_params rs own)))
          (subst (λ n. Shown (class_env (rs ++ own)) (params_from n (length A.member.params)) own) g.arity
          (subst (λ n. Shown (class_env (rs ++ own)) (params_from (length rs) n) own) lo (method_params rs own)))

      st : Stands (length (A.regions ++ own)) 0 (class_env (rs ++ own)) (class_env (A.regions ++ own)) (o.seen ++ method_paths g.class A.member)
      st = shown_stands 0 shown refl

      full : (p : ℕ) → IsTrue (fully_specified (argument (o.seen ++ method_paths g.class A.member) p))
      full = full_arguments (o.seen ++ method_paths g.class A.member) shown.full

      holds : (c : Constraint) → ClosedPath (length (A.regions ++ own)) 0 c.left × ClosedPath (length (A.regions ++ own)) 0 c.right →
          Holds (class_env (A.regions ++ own)) c →
          Holds (class_env (rs ++ own)) (constraint_with (o.seen ++ method_paths g.class A.member) c)
      holds c cl h =
          ap (λ z. apart [] z (put_in (class_env (rs ++ own)) (substituted (o.seen ++ method_paths g.class A.member) c.right))) (shown_put shown c.left cl.0)
          ∙ ap (λ z. apart [] (put_in (class_env (A.regions ++ own)) c.left) z) (shown_put shown c.right cl.1) ∙ h

  -- what the object's own class has in the row
  pub record RowAt (d r : ℕ) (rs own : List Region) (m : PlainMember) (qs : List Region) : Type 0 where
    pub number : ℕ
    pub row : row_at P d r ≡ Some number
    pub at : MemberAt d rs number
    pub stands : StandsFor own m qs at.member at.regions

  pub same_member : (m w : PlainMember) (n : ℕ) → member_at P n ≡ Some m → member_at P n ≡ Some w → m ≡ w
  same_member m w n e f = let z : Some m ≡ Some w = sym e ∙ f in cc

  pub plain_both : (rs own : List Region) → ArePlain rs → ArePlain own → ArePlain (rs ++ own)
  plain_both [] own h k p = k p
  plain_both (r ∷ rs) own h k zero = h 0
  plain_both (r ∷ rs) own h k (suc p) = plain_both rs own (λ q. h (suc q)) k p

  -- one class further down
  row_below : {d : ℕ} {rs : List Region} (own : List Region) (r : ℕ) (p : PlainParent) → parent_of P d ≡ Some p → (g : GoodObject P d rs) →
      ArePlain own → (m : PlainMember) (qs : List Region) → length own ≡ length m.params →
      RowAt p.class r (regions_of_parent rs p) own m qs → RowAt d r rs own m qs
  row_below {d} {rs} own r p q g pl m qs lo i = kept z.2
    where
      x : Extends P wt.rank d g.class p
      x = parent_extends P wt g.is q

      z : (m : ℕ) × (slice_get g.class.rows r ≡ Some m) × KeepsRow P d g.class i.number m
      z = x.rows r i.number (sym (ap (λ z. option_and_then (λ (class : PlainClass). slice_get class.rows r) z) x.is) ∙ i.row)

      row : row_at P d r ≡ Some z.0
      row = ap (λ z. option_and_then (λ (class : PlainClass). slice_get class.rows r) z) g.is ∙ z.1

      here : MemberAt d rs i.number
      here = record { member = i.at.member; there = i.at.there; regions = i.at.regions; is_one = up q i.at.is_one }

      kept : KeepsRow P d g.class i.number z.0 → RowAt d r rs own m qs
      kept (inl s) = record { number = i.number; row = row ∙ ap (λ m. Some m) s; at = here; stands = i.stands }
      kept (inr (w, above, ew, ea, o)) =
          let k = same_member above i.at.member i.number ea i.at.there in
          let o' = subst (λ m. Overrides P d g.class w m) k o in
          record {
            number = z.0;
            row = row;
            at = record { member = w; there = ew; regions = rs; is_one = subst (λ y. Is P d rs y rs) (sym o'.own) same };
            stands = stands_trans i.stands (overrides d rs own g (plain_both rs own g.plain pl) i.number here w o' (lo ∙ ap length (sym i.stands.params)));
          }

  pub row_is : {d c : ℕ} {rs qs : List Region} (own : List Region) (r n : ℕ) → Is P d rs c qs → GoodObject P d rs → ArePlain own →
      row_at P c r ≡ Some n → (A : MemberAt c qs n) → length own ≡ length A.member.params →
      RowAt d r rs own A.member A.regions
  row_is own r n same g pl e A lo = record { number = n; row = e; at = A; stands = stands_refl own A.member A.regions }
  row_is own r n (up {p = p} q h) g pl e A lo = row_below own r p q g pl A.member A.regions lo (row_is own r n h (good_parent P wt g q) pl e A lo)
