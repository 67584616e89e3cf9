-- The run with deterministic constructs moved has each event in its place.
use Rattle.std.proofs.Common.{◌≡◌, ℕ, zero, suc, ◌+◌, ◌-◌, ◌<◌, ◌≤◌, ◌⊎◌, inl, inr, ⊎_elim, true, List, [], ◌∷◌, ◌++◌, length, refl, sym, ap}
use Rattle.std.proofs.Common.{◌∙◌, subst, arith, append_assoc, Some, None, slice_get}
use Rattle.std.proofs.lemmas.Bool.{cases_order, cases_eq, cases_lt, and_parts, cond-true, cond-false}
use Rattle.std.proofs.lemmas.Option.{slice_get_past}
use Rattle.std.proofs.Common.{eqb-true}
use Rattle.runs_theory.specs.Actions.{Action, Begin, Do, End, Fork, Join, Program}
use Rattle.runs_theory.specs.Meaning.{Disciplined, Known}
use Rattle.runs_theory.specs.Objects.{Path}
use Rattle.runs_theory.specs.Runs.{Event, Faithful, Run, Upto, count, later, mine, now}
use Rattle.runs_theory.specs.Standing.{Valid, first_of}
use Rattle.runs_reduction.specs.Guarded.{LevelsGuarded}
use Rattle.runs_reduction.specs.Insertion.{All_of, Branch_of, Earlier, Spot, begins_branch, is_under, near, put_after}
use Rattle.runs_reduction.specs.Moved.{AfterForks, DetFork, InBranch, InConstruct, below, construct_spot, inner, is_det, its_begin, kind_after, move, spot_of}
use Rattle.runs_theory.proofs.events.Upto.{upto_trans, upto_length, upto_tail, upto_split, upto_none, Which, which, same_one, before, after}
use Rattle.runs_theory.proofs.events.Places.{snoc, not_below_self}
use Rattle.runs_theory.proofs.events.Mine.{path_cases, same_path_eq, mine_same, mine_at, mine_upto, Found, found, same_of, number_of}
use Rattle.runs_theory.proofs.runs.Faithful.{ForkAt, fork_above, begin_after}
use Rattle.runs_theory.proofs.order.Between.{closed, fork_passes}
use Rattle.runs_theory.proofs.runs.Standing.{first_is, only_begins_so}
use Rattle.runs_theory.proofs.events.Carry.{found_in}
use Rattle.runs_theory.proofs.runs.Written.{faithful_of}
use Rattle.runs_reduction.proofs.shifts.Under.{Under, under_self, under_more, under_root, UnderCases, yes_under, not_under, under_cases, true_of, of_true, Split, lies_in}
use Rattle.runs_reduction.proofs.shifts.Under.{lies_over, split}
use Rattle.runs_reduction.proofs.shifts.Spots.{inner_under, inner_least}
use Rattle.runs_reduction.proofs.shifts.Insertion.{rearranged_step, Rebuilt, grown, grown_back, Bools, yes, no, bools}
use Rattle.runs_reduction.proofs.moved.Branch.{near_under, near_begin}
use Rattle.runs_reduction.proofs.moved.Move.{spot_inner, Other, free, begin, spot_other, some_event, levels_upto, moved}
use Rattle.runs_reduction.proofs.shifts.Shifts.{not_back, shifted, NewAt, new_at}

abbrev group : Spot → Path
group (Branch_of u q) = u ∷ q
group (All_of q) = q

near_group : (s : Spot) (x : Event) → Under (group s) x.path → near s x ≡ true
near_group (Branch_of u q) x h = near_under u q x h
near_group (All_of q) x h = true_of q x.path h

group_in : (R : Run) (e : Event) → Under (group (construct_spot R e)) e.path
group_in R e = go (construct_spot R e) refl
  where
    other : (q : Path) → Other R e.path e.act q → Under q e.path
    other q (free k) = subst (λ r. Under r e.path) (sym k) (under_root e.path)
    other q (begin b a k d) = subst (λ r. Under q r) k (under_self q)

    go : (s : Spot) → construct_spot R e ≡ s → Under (group s) e.path
    go (Branch_of u q) k = inner_under R e.path u q (spot_inner R e.path e.act u q k)
    go (All_of q) k = other q (spot_other R e.path e.act q k)

-- whether an action begins a branch
begins_is : (n : ℕ) (a : Action) → begins_branch n a ≡ true → a ≡ Begin n
begins_is n (Begin b) e = ap Begin (sym (eqb-true n b e))
begins_is n (Fork ts) e = absurd (cc)
begins_is n Join e = absurd (cc)
begins_is n (Do o) e = absurd (cc)
begins_is n (End x) e = absurd (cc)

near_branch : (u : ℕ × ℕ) (q : Path) (x : Event) → near (Branch_of u q) x ≡ true → Under (u ∷ q) x.path ⊎ ((x.path ≡ q) × (x.act ≡ Begin u.1))
near_branch u q x h = go (bools (is_under x.path (u ∷ q)))
  where
    go : Bools (is_under x.path (u ∷ q)) → Under (u ∷ q) x.path ⊎ ((x.path ≡ q) × (x.act ≡ Begin u.1))
    go (yes k) = inl (of_true (u ∷ q) x.path k)
    go (no k) = let p = and_parts _ _ (sym (cond-false _ _ _ k) ∙ h) in inr (same_path_eq x.path q p.0, begins_is u.1 x.act p.1)

-- whether an event is in a branch, or in a construct
branch_cases : (q : Path) (k b : ℕ) (p : Path) (n : ℕ) → InBranch q k b p n ⊎ (InBranch q k b p n → ⊥)
branch_cases q k b p n = go (under_cases ((k, b) ∷ q) p) (path_cases p q) (cases_eq n (suc (k + b)))
  where
    go : UnderCases ((k, b) ∷ q) p → (p ≡ q) ⊎ (p ≡ q → ⊥) → (n ≡ suc (k + b)) ⊎ (n ≡ suc (k + b) → ⊥) → InBranch q k b p n ⊎ (InBranch q k b p n → ⊥)
    go (yes_under h t) c d = inl (below h.below h.is)
    go (not_under h t) (inl c) (inl d) = inl (its_begin c d)
    go (not_under h t) (inl c) (inr d) = inr never
      where
        never : InBranch q k b p n → ⊥
        never (its_begin x y) = d y
        never (below xs x) = h (record { below = xs; is = x })
    go (not_under h t) (inr c) d = inr never
      where
        never : InBranch q k b p n → ⊥
        never (its_begin x y) = c x
        never (below xs x) = h (record { below = xs; is = x })

pub construct_cases : (m : ℕ) (q : Path) (k : ℕ) (p : Path) (n : ℕ) → InConstruct m q k p n ⊎ (InConstruct m q k p n → ⊥)
construct_cases zero q k p n = inr (λ c. (let l = c.there in absurd (omega arith)))
construct_cases (suc m) q k p n = go (construct_cases m q k p n) (branch_cases q k m p n)
  where
    go : InConstruct m q k p n ⊎ (InConstruct m q k p n → ⊥) → InBranch q k m p n ⊎ (InBranch q k m p n → ⊥) → InConstruct (suc m) q k p n
        ⊎ (InConstruct (suc m) q k p n → ⊥)
    go (inl c) d = inl (record { branch = c.branch; there = (let l = c.there in omega arith); is = c.is })
    go (inr c) (inl d) = inl (record { branch = m; there = omega arith; is = d })
    go (inr c) (inr d) = inr (λ x. (let l = x.there in at x (cases_eq x.branch m)))
      where
        at : (x : InConstruct (suc m) q k p n) → (x.branch ≡ m) ⊎ (x.branch ≡ m → ⊥) → ⊥
        at x (inl y) = d (subst (λ b. InBranch q k b p n) y x.is)
        at x (inr y) = c (record { branch = x.branch; there = (let l = x.there in omega arith); is = x.is })

in_branch_under : (q : Path) (k b : ℕ) (p : Path) (n : ℕ) → InBranch q k b p n → Under q p
in_branch_under q k b p n (its_begin x y) = record { below = []; is = x }
in_branch_under q k b p n (below xs x) = record { below = xs ++ (k, b) ∷ []; is = x ∙ sym (append_assoc xs ((k, b) ∷ []) q) }

-- begins change nothing of the kind of a task's latest construct
pub det_since : {es L : Run} → Upto es L → ((X : Run) (x : Event) → Upto (x ∷ X) L → length es ≤ length X → (b : ℕ) × (x.act ≡ Begin b)) → is_det L ≡ is_det es
det_since now f = refl
det_since {es} (later {y = y} {ys = ys} h) f =
    let a = f ys y now (upto_length h) in
    ap (λ c. kind_after c (is_det ys)) a.1 ∙ det_since h (λ X x u l. f X x (later u) l)

pub there_lt : {A : Type 0} (xs : List A) (n : ℕ) (x : A) → slice_get xs n ≡ Some x → n < length xs
there_lt xs n x e = ⊎_elim (λ l. l) (λ g. absurd (let z : None ≡ Some x = sym (slice_get_past xs n g) ∙ e in cc)) (cases_lt n (length xs))

second_of : (x y : ℕ × ℕ) (p q : Path) → x ∷ p ≡ y ∷ q → x.1 ≡ y.1
second_of x y p q e = let u : x ≡ y = cc in ap (λ w. w.1) u

module _ (P : Program) (D : Disciplined P) (R : Run) (e : Event) (l : Faithful P (e ∷ R)) (G0 : Run) (g : Rebuilt P R G0) (rec : AfterForks R G0) where
  lg : Faithful P G0
  lg = faithful_of P G0 g.valid

  abbrev o : Path
  o = group (construct_spot R e)

  abbrev H : Run
  H = put_after (construct_spot R e) e G0

  e_in : Under o e.path
  e_in = group_in R e

  test : (x : Event) → Under o x.path → near (construct_spot R e) x ≡ true
  test x h = near_group (construct_spot R e) x h

  -- an event of the run, where it is moved to
  there : {x : Event} {X : Run} → Upto (x ∷ X) R → Found G0 x.path x (mine X x.path)
  there {x} hx = found_in x.path (grown_back g) hx refl

  keeps : {p q : Path} {k n : ℕ} → Earlier G0 p k q n → Earlier H p k q n
  keeps {p} {q} {k} {n} y =
      let m = shifted (construct_spot R e) o e e_in test G0 y.event y.before y.stands in
      let more = m.more p in
      let ym = y.more in
      let same = subst (λ r. count m.before r ≡ count y.before r) y.path m.same in
      record { before = m.before; event = y.event; stands = m.stands; path = y.path; number = same ∙ y.number; more = omega arith }

  -- what stands in the moved run so that the one is before the other
  in_order : {x y : Event} {X Y : Run} → (hx : Upto (x ∷ X) R) → (hy : Upto (y ∷ Y) R) → Upto (x ∷ (there hx).before) (there hy).before
      → Earlier G0 x.path (count X x.path) y.path (count Y y.path)
  in_order {x} {y} {X} {Y} hx hy h =
      let a = there hx in
      let b = there hy in
      let n = number_of x.path h refl in
      let c = ap length a.mine_is in
      record { before = b.before; event = y; stands = b.stands; path = refl; number = ap length b.mine_is; more = omega arith }

  back : {x y : Event} {X Y : Run} → (hx : Upto (x ∷ X) R) → (hy : Upto (y ∷ Y) R) → Earlier H x.path (count X x.path) y.path (count Y y.path)
      → Earlier G0 x.path (count X x.path) y.path (count Y y.path)
  back {x} {y} {X} {Y} hx hy w = go (which (there hx).stands (there hy).stands)
    where
      go : Which x (there hx).before y (there hy).before → Earlier G0 x.path (count X x.path) y.path (count Y y.path)
      go (before h) = in_order hx hy h
      go (after h) = absurd (not_back H x.path y.path (count X x.path) (count Y y.path) w (keeps (in_order hy hx h)))
      go (same_one a b) =
          let c = ap length (there hx).mine_is in
          let d = ap length (there hy).mine_is in
          let i = ap (λ r. count r x.path) b in
          let j = ap (λ r. count w.before r) (ap (λ v. v.path) a) in
          let k = ap (λ r. count (there hy).before r) (ap (λ v. v.path) a) in
          let m = w.more in
          let n = w.number in
          absurd (omega arith)

  -- the place, where an event that is near stands
  module _ (wn : Event) (Wn : Run) (wh : Upto (wn ∷ Wn) G0) (wt : near (construct_spot R e) wn ≡ true) where
    abbrev new : NewAt (construct_spot R e) o e e_in test G0
    new = new_at (construct_spot R e) o e e_in test G0 wn Wn wh wt

    abbrev top : Event
    top = new.top

    abbrev Z : Run
    Z = new.top ∷ new.rest

    zr : Found R top.path top (mine new.rest top.path)
    zr = found_in top.path (grown g) new.stands refl

    sooner : {x : Event} {X : Run} → (hx : Upto (x ∷ X) R) → Upto (x ∷ (there hx).before) Z → Earlier H x.path (count X x.path) e.path (count R e.path)
    sooner {x} {X} hx h =
        let a = there hx in
        let n = number_of x.path h refl in
        let c = ap length a.mine_is in
        record { before = Z; event = e; stands = new.new; path = refl; number = ap length (new.full e.path e_in ∙ g.same e.path); more = omega arith }

    near_sooner : {x : Event} {X : Run} → (hx : Upto (x ∷ X) R) → near (construct_spot R e) x ≡ true → Upto (x ∷ (there hx).before) Z
    near_sooner {x} {X} hx t = new.has x (there hx).before (there hx).stands t

    either : {x : Event} {X : Run} → (hx : Upto (x ∷ X) R) → Upto (x ∷ (there hx).before) Z ⊎ Earlier H e.path (count R e.path) x.path (count X x.path)
    either {x} {X} hx = go (new.others x (there hx).before (there hx).stands)
      where
        go : Upto (x ∷ (there hx).before) Z ⊎ ((Y : Run) × Upto (x ∷ Y) H × (count Y x.path ≡ count (there hx).before x.path) × Upto (e ∷ Z) Y)
            → Upto (x ∷ (there hx).before) Z ⊎ Earlier H e.path (count R e.path) x.path (count X x.path)
        go (inl h) = inl h
        go (inr v) =
            let a = there hx in
            let c = upto_length (mine_at e.path v.3 refl) in
            let d = ap length (new.full e.path e_in ∙ g.same e.path) in
            inr (record { before = v.0; event = x; stands = v.1; path = refl; number = v.2 ∙ ap length a.mine_is; more = omega arith })

    -- what is not after the place is the event there, or before it
    by_top : {x : Event} {X : Run} → (hx : Upto (x ∷ X) R) → Upto (x ∷ (there hx).before) Z → ((x ≡ top) × (count X x.path ≡ count zr.before top.path))
        ⊎ Earlier G0 x.path (count X x.path) top.path (count zr.before top.path)
    by_top {x} {X} hx h = go (upto_split h)
      where
        go : ((x ≡ top) × ((there hx).before ≡ new.rest)) ⊎ Upto (x ∷ (there hx).before) new.rest → ((x ≡ top) × (count X x.path ≡ count zr.before top.path))
            ⊎ Earlier G0 x.path (count X x.path) top.path (count zr.before top.path)
        go (inl p) =
            let a = ap length (there hx).mine_is in
            let b = ap length zr.mine_is in
            let c = ap (λ r. count r x.path) p.1 in
            let d = ap (λ v. count new.rest v.path) p.0 in
            inl (p.0, omega (arith, a, b, c, d))
        go (inr k) =
            let a = there hx in
            let n = number_of x.path k refl in
            let c = ap length a.mine_is in
            inr (record { before = new.rest; event = top; stands = new.stands; path = refl; number = sym (ap length zr.mine_is); more = omega arith })

    -- and what comes before it is not after the place
    not_after : {x : Event} {X : Run} → (hx : Upto (x ∷ X) R) → Earlier G0 x.path (count X x.path) top.path (count zr.before top.path)
        → Upto (x ∷ (there hx).before) Z
    not_after {x} {X} hx w = go (which (there hx).stands new.stands)
      where
        go : Which x (there hx).before top new.rest → Upto (x ∷ (there hx).before) Z
        go (before h) = later h
        go (same_one a b) = subst (λ r. Upto (x ∷ (there hx).before) (top ∷ r)) b (subst (λ v. Upto (x ∷ (there hx).before) (v ∷ (there hx).before)) a now)
        go (after h) =
            let m = w.more in
            let n = w.number in
            let c = ap length zr.mine_is in
            let d = ap length (there hx).mine_is in
            absurd (by (which w.stands new.stands))
          where
            by : Which w.event w.before top new.rest → ⊥
            by (same_one p q) =
                let m = w.more in
                let d = ap length (there hx).mine_is in
                let i = ap (λ r. count r x.path) q in
                let j = upto_length (mine_upto x.path (upto_tail h)) in
                absurd (omega arith)
            by (before k) = let a = number_of top.path k w.path in let n = w.number in let c = ap length zr.mine_is in absurd (omega arith)
            by (after k) = let a = number_of top.path k refl in let n = w.number in let c = ap length zr.mine_is in absurd (omega arith)

  -- the first construct below a fork of which there is an event, and it, is deterministic
  det_at : {q : Path} {k : ℕ} → (d : DetFork R q k) → is_det (first_of (suc k) (mine R q)) ≡ true
  det_at {q} {k} d =
      let n = ap suc d.number in
      let f : first_of (suc k) (mine R q) ≡ d.event ∷ mine d.before q =
      subst (λ i. first_of i (mine R q) ≡ d.event ∷ mine d.before q) n (first_is (mine_at q d.stands d.path)) in
      ap is_det f ∙ ap (λ c. kind_after c (is_det (mine d.before q))) d.act ∙ d.det

  spot_deep : (p : Path) (a : Action) (u : ℕ × ℕ) (q : Path) → inner R p ≡ Branch_of u q → (spot_of R p a ≡ Branch_of u q) ⊎ (spot_of R p a ≡ All_of p)
  spot_deep p (Begin b) u q i = go (bools (is_det (mine R p)))
    where
      go : Bools (is_det (mine R p)) → (spot_of R p (Begin b) ≡ Branch_of u q) ⊎ (spot_of R p (Begin b) ≡ All_of p)
      go (yes t) = inr (cond-true _ _ _ t)
      go (no t) = inl (cond-false _ _ _ t ∙ i)
  spot_deep p (Fork ts) u q i = inl i
  spot_deep p Join u q i = inl i
  spot_deep p (Do o) u q i = inl i
  spot_deep p (End x) u q i = inl i

  -- after the fork, as long as not all branches have begun, stand begins
  begun_so : {q : Path} {k : ℕ} (d : DetFork R q k) (b : ℕ) → b < length d.branches.tasks → count R q ≡ suc (k + b) → (y : Event) (Y : Run) → Upto (y ∷ Y) R
      → y.path ≡ q → k < count Y q → y.act ≡ Begin (count Y q - suc k)
  begun_so {q} {k} d b lt n y Y hy yq m =
      let c = number_of q hy yq in
      let i = d.number in
      begin_after P D q d.branches (count Y q - suc k) l.1 d.stands d.path d.act hy yq (omega arith) (omega arith)

  spot_begin : {q : Path} {k : ℕ} (d : DetFork R q k) (b : ℕ) → b < length d.branches.tasks → e.path ≡ q → count R q ≡ suc (k + b)
      → construct_spot R e ≡ All_of q
  spot_begin {q} {k} d b lt p n = ap (λ c. spot_of R e.path c) act ∙ cond-true _ _ _ (ap (λ r. is_det (mine R r)) p ∙ kinds) ∙ ap All_of p
    where
      act : e.act ≡ Begin b
      act = (let i = d.number in begin_after P D q d.branches b l (later d.stands) d.path d.act now p (omega arith) lt)

      so : (X : Run) (x : Event) → Upto (x ∷ X) (mine R q) → suc (count d.before q) ≤ length X → (b : ℕ) × (x.act ≡ Begin b)
      so X x h m =
          let f = found R q h in
          let i = ap length f.mine_is in
          let j = d.number in
          (count f.before q - suc k, begun_so d b lt n x f.before f.stands f.path (omega arith))

      kinds : is_det (mine R q) ≡ true
      kinds = det_since (mine_at q d.stands d.path) so ∙ ap (λ c. kind_after c (is_det (mine d.before q))) d.act ∙ d.det

  -- where another event stands there is one that is near
  witness : {x : Event} {X : Run} → Upto (x ∷ X) R → (w : Event) × (W : Run) × Upto (w ∷ W) G0 × (near (construct_spot R e) w ≡ true)
  witness {x} {X} hx = go (construct_spot R e) refl
    where
      other : (q : Path) → construct_spot R e ≡ All_of q → Other R e.path e.act q → (w : Event) × (W : Run) × Upto (w ∷ W) G0
          × (near (construct_spot R e) w ≡ true)
      other q sp (free k) = (
        x,
        (there hx).before,
        (there hx).stands,
        ap (λ s. near s x) sp
            ∙ true_of q x.path (subst (λ r. Under r x.path) (sym k) (under_root x.path)),
      )
      other q sp (begin b a k d) =
          let v = some_event (mine R e.path) d in
          let f = found R e.path (subst (λ z. Upto (v.0 ∷ v.1) z) (sym v.2) now) in
          (v.0, (there f.stands).before, (there f.stands).stands, ap (λ s. near s v.0) sp ∙ true_of q v.0.path (record { below = []; is = f.path ∙ sym k }))

      go : (s : Spot) → construct_spot R e ≡ s → (w : Event) × (W : Run) × Upto (w ∷ W) G0 × (near (construct_spot R e) w ≡ true)
      go (Branch_of u q) sp =
          let h = inner_under R e.path u q (spot_inner R e.path e.act u q sp) in
          let f = fork_above P D h.below q u l now h.is in
          (f.begin, (there f.begin_stands).before, (there f.begin_stands).stands, ap (λ s. near s f.begin) sp ∙ near_begin u q f.begin f.begin_path f.begin_act)
      go (All_of q) sp = other q sp (spot_other R e.path e.act q sp)

  -- what the event at the place is
  module _ (wn : Event) (Wn : Run) (wh : Upto (wn ∷ Wn) G0) (wt : near (construct_spot R e) wn ≡ true) where
    abbrev tp : Event
    tp = top wn Wn wh wt

    abbrev tr : Found R tp.path tp (mine (new wn Wn wh wt).rest tp.path)
    tr = zr wn Wn wh wt

    abbrev at : NewAt (construct_spot R e) o e e_in test G0
    at = new wn Wn wh wt

    top_number : (v : ℕ × ℕ) (r : Path) → construct_spot R e ≡ Branch_of v r → tp.path ≡ r → tp.act ≡ Begin v.1 → count tr.before r ≡ suc (v.0 + v.1)
    top_number v r sp p a =
        let h = inner_under R e.path v r (spot_inner R e.path e.act v r sp) in
        let f : ForkAt R r v = fork_above P D h.below r v l now h.is in
        let w = near_sooner wn Wn wh wt f.begin_stands (ap (λ s. near s f.begin) sp ∙ near_begin v r f.begin f.begin_path f.begin_act) in
        let c = number_of r w f.begin_path in
        let i = subst (λ q. count (there f.begin_stands).before q ≡ count f.began q) f.begin_path (ap length (there f.begin_stands).mine_is) in
        let j = f.begin_number in
        let m = ap length (mine_same tp at.rest r p) in
        let n = subst (λ q. count tr.before q ≡ count at.rest q) p (ap length tr.mine_is) in
        let k : Begin v.1 ≡ Begin (count tr.before r - suc v.0) =
        sym a ∙ only_begins_so P D h.below r v l h.is (mine tr.before r) tp (mine_at r tr.stands p) (omega arith) in
        let z : v.1 ≡ count tr.before r - suc v.0 = cc in
        omega arith

    top_in_branch : {q : Path} {k : ℕ} (b : ℕ) (d : DetFork R q k) (xs : Path) → e.path ≡ xs ++ (k, b) ∷ q → InBranch q k b tp.path (count tr.before tp.path)
    top_in_branch {q} {k} b d xs p = go (spot_deep e.path e.act v r iv)
      where
        least : (v : ℕ × ℕ) × (r : Path) × (inner R (xs ++ (k, b) ∷ q) ≡ Branch_of v r) × Under ((k, b) ∷ q) (v ∷ r)
        least = inner_least R xs (k, b) q (det_at d)

        v : ℕ × ℕ
        v = least.0

        r : Path
        r = least.1

        iv : inner R e.path ≡ Branch_of v r
        iv = ap (λ z. inner R z) p ∙ least.2

        by_begin : (ws : Path) → v ∷ r ≡ ws ++ (k, b) ∷ q → construct_spot R e ≡ Branch_of v r → tp.path ≡ r → tp.act ≡ Begin v.1
            → InBranch q k b tp.path (count tr.before tp.path)
        by_begin [] y sp h a =
            let i : v ≡ (k, b) = cc in
            let j : r ≡ q = cc in
            let n = top_number v r sp h a in
            let m = ap (λ z. count tr.before z) h in
            its_begin (h ∙ j) (m ∙ n ∙ ap (λ z. suc (z.0 + z.1)) i)
        by_begin (w ∷ ws) y sp h a = let j : r ≡ ws ++ (k, b) ∷ q = cc in below ws (h ∙ j)

        go : (construct_spot R e ≡ Branch_of v r) ⊎ (construct_spot R e ≡ All_of e.path) → InBranch q k b tp.path (count tr.before tp.path)
        go (inr sp) =
            let h = of_true e.path tp.path (ap (λ s. near s tp) (sym sp) ∙ at.is_near) in
            below (h.below ++ xs) (h.is ∙ ap (λ z. h.below ++ z) p ∙ sym (append_assoc h.below xs ((k, b) ∷ q)))
        go (inl sp) = ⊎_elim
            (λ h. (let m = under_more ((k, b) ∷ q) (v ∷ r) tp.path h.below least.3 h.is in below m.below m.is))
            (λ h. (let u = least.3 in by_begin u.below u.is sp h.0 h.1))
            (near_branch v r tp (ap (λ s. near s tp) (sym sp) ∙ at.is_near))

    abbrev TopIn : Path → ℕ → ℕ → Type 0
    TopIn q k m = ((tp.path ≡ q) × (count tr.before q ≡ k)) ⊎ InConstruct m q k tp.path (count tr.before tp.path)

    top_of_begin : {q : Path} {k : ℕ} (d : DetFork R q k) (b : ℕ) → b < length d.branches.tasks → e.path ≡ q → count R q ≡ suc (k + b)
        → TopIn q k (length d.branches.tasks)
    top_of_begin {q} {k} d b lt p n = go h.below h.is
      where
        sp : construct_spot R e ≡ All_of q
        sp = spot_begin d b lt p n

        h : Under q tp.path
        h = of_true q tp.path (ap (λ s. near s tp) (sym sp) ∙ at.is_near)

        fz : Upto (d.event ∷ (there d.stands).before) (tp ∷ at.rest)
        fz = near_sooner wn Wn wh wt d.stands (ap (λ s. near s d.event) sp ∙ true_of q d.event.path (record { below = []; is = d.path }))

        fn : count (there d.stands).before q ≡ k
        fn = subst (λ z. count (there d.stands).before z ≡ count d.before z) d.path (ap length (there d.stands).mine_is) ∙ d.number

        at_task : tp.path ≡ q → TopIn q k (length d.branches.tasks)
        at_task y = ⊎_elim (λ z. inl (y, z)) (λ z. inr (record {
          branch = count tr.before q - suc k;
          there = omega (arith, c, m, i, j, n, lt, z);
          is = its_begin y (let v = ap (λ r. count tr.before r) y in omega (arith, v, c, m, i, j, z));
        })) (cases_eq (count tr.before q) k)
          where
            c : k < count (tp ∷ at.rest) q
            c = subst (λ i. i < count (tp ∷ at.rest) q) fn (number_of q fz d.path)

            m : count (tp ∷ at.rest) q ≡ suc (count at.rest q)
            m = ap length (mine_same tp at.rest q y)

            i : count tr.before q ≡ count at.rest q
            i = subst (λ z. count tr.before z ≡ count at.rest z) y (ap length tr.mine_is)

            j : count tr.before q < count R q
            j = number_of q tr.stands y

        lower : (xs : Path) (c : ℕ × ℕ) → tp.path ≡ xs ++ c ∷ q → TopIn q k (length d.branches.tasks)
        lower xs c y = by_order (cases_order c.0 k)
          where
            f : ForkAt tr.before q c
            f = fork_above P D xs q c l.1 tr.stands y

            fs : Upto (f.event ∷ f.before) R
            fs = upto_trans f.stands (upto_tail tr.stands)

            by_order : (c.0 ≡ k) ⊎ ((c.0 < k) ⊎ (k < c.0)) → TopIn q k (length d.branches.tasks)
            by_order (inl z) =
                let w = same_of q fs d.stands f.path d.path (f.number ∙ z ∙ sym d.number) in
                let ft : Fork f.tasks ≡ Fork d.branches = sym f.act ∙ ap (λ v. v.act) w.0 ∙ d.act in
                let bt : f.tasks ≡ d.branches = cc in
                let pe : c ≡ (k, c.1) = (λ i. (z i, c.1)) in
                inr (record {
                  branch = c.1;
                  there = there_lt d.branches.tasks c.1 f.task (ap (λ b. slice_get b.tasks c.1) (sym bt) ∙ f.is_there);
                  is = below xs (y ∙ ap (λ w. xs ++ w ∷ q) pe);
                })
            by_order (inr (inl z)) =
                let w = upto_length (closed P D xs q c lg at.stands y (there d.stands).stands d.path (omega (arith, fn, z))
                (fork_passes P D d.event.act d.branches d.act)) in
                let v = upto_length fz in
                absurd (omega arith)
            by_order (inr (inr z)) =
                let a = begun_so d b lt n f.event f.before fs f.path (let i = f.number in omega arith) in
                absurd (let y : Fork f.tasks ≡ Begin (count f.before q - suc k) = sym f.act ∙ a in cc)

        go : (ws : Path) → tp.path ≡ ws ++ q → TopIn q k (length d.branches.tasks)
        go [] y = at_task y
        go (w ∷ ws) y = let r = snoc w ws in lower r.0 r.1 (y ∙ ap (λ l. l ++ q) r.2 ∙ append_assoc r.0 (r.1 ∷ []) q)

    top_in : {q : Path} {k : ℕ} (d : DetFork R q k) → InConstruct (length d.branches.tasks) q k e.path (count R e.path) → TopIn q k (length d.branches.tasks)
    top_in {q} {k} d c = go c.is
      where
        go : InBranch q k c.branch e.path (count R e.path) → TopIn q k (length d.branches.tasks)
        go (its_begin p n) = top_of_begin d c.branch c.there p (ap (λ z. count R z) (sym p) ∙ n)
        go (below xs p) = inr (record { branch = c.branch; there = c.there; is = top_in_branch c.branch d xs p })

  -- as an event of its task, by the task's name and the event's number
  from_fork : {q p : Path} {k n : ℕ} {G : Run} (d : DetFork R q k) → Earlier G q k p n → Earlier G d.event.path (count d.before d.event.path) p n
  from_fork {q} {p} {k} {n} {G} d w = subst (λ z. Earlier G z (count d.before z) p n) (sym d.path) (subst (λ i. Earlier G q i p n) (sym d.number) w)

  to_fork : {q p : Path} {k n : ℕ} {G : Run} (d : DetFork R q k) → Earlier G p n d.event.path (count d.before d.event.path) → Earlier G p n q k
  to_fork {q} {p} {k} {n} {G} d w = subst (λ i. Earlier G p n q i) d.number (subst (λ z. Earlier G p n z (count d.before z)) d.path w)

  of_fork : {q p : Path} {k n : ℕ} {G : Run} (d : DetFork R q k) → Earlier G d.event.path (count d.before d.event.path) p n → Earlier G q k p n
  of_fork {q} {p} {k} {n} {G} d w = subst (λ i. Earlier G q i p n) d.number (subst (λ z. Earlier G z (count d.before z) p n) d.path w)

  -- this event and an earlier one that belongs where it belongs
  kept_here : (X : Run) (x : Event) → Upto (x ∷ X) R → construct_spot X x ≡ construct_spot R e → Earlier H x.path (count X x.path) e.path (count R e.path)
  kept_here X x hx k = sooner x (there hx).before (there hx).stands t hx (near_sooner x (there hx).before (there hx).stands t hx t)
    where
      t : near (construct_spot R e) x ≡ true
      t = test x (subst (λ s. Under (group s) x.path) k (group_in X x))

  -- this event in a construct, and another that is not in it
  after_in : {q : Path} {k : ℕ} (d : DetFork R q k) (Y : Run) (y : Event) → Upto (y ∷ Y) R
      → InConstruct (length d.branches.tasks) q k e.path (count R e.path) → (InConstruct (length d.branches.tasks) q k y.path (count Y y.path) → ⊥)
      → Earlier H q k y.path (count Y y.path) → Earlier H e.path (count R e.path) y.path (count Y y.path)
  after_in {q} {k} d Y y hy ce ny w = go (witness hy)
    where
      fy : Earlier G0 q k y.path (count Y y.path)
      fy = of_fork d (back d.stands hy (from_fork d w))

      go : (v : Event) × (V : Run) × Upto (v ∷ V) G0 × (near (construct_spot R e) v ≡ true) → Earlier H e.path (count R e.path) y.path (count Y y.path)
      go v = ⊎_elim (λ h. absurd (hit (top_in v.0 v.1 v.2 v.3 d ce) (by_top v.0 v.1 v.2 v.3 hy h))) (λ h. h) (either v.0 v.1 v.2 v.3 hy)
        where
          t : Event
          t = top v.0 v.1 v.2 v.3

          r : Found R t.path t (mine (new v.0 v.1 v.2 v.3).rest t.path)
          r = zr v.0 v.1 v.2 v.3

          hit : ((t.path ≡ q) × (count r.before q ≡ k)) ⊎ InConstruct (length d.branches.tasks) q k t.path (count r.before t.path)
              → ((y ≡ t) × (count Y y.path ≡ count r.before t.path)) ⊎ Earlier G0 y.path (count Y y.path) t.path (count r.before t.path) → ⊥
          hit (inr c) (inl m) = ny (subst (λ z. InConstruct (length d.branches.tasks) q k z.path (count Y y.path)) (sym m.0)
              (subst (λ i. InConstruct (length d.branches.tasks) q k t.path i) (sym m.1) c))
          hit (inr c) (inr m) = not_back G0 y.path t.path (count Y y.path) (count r.before t.path) m
              (rec.after_its_fork q k d r.before Y t y r.stands hy c ny fy)
          hit (inl f) (inl m) =
              let a : y.path ≡ q = ap (λ z. z.path) m.0 ∙ f.0 in
              let b : count Y y.path ≡ k = m.1 ∙ ap (λ z. count r.before z) f.0 ∙ f.1 in
              let c : Earlier G0 q k q k = subst (λ i. Earlier G0 q k q i) b (subst (λ z. Earlier G0 q k z (count Y y.path)) a fy) in
              not_back G0 q q k k c c
          hit (inl f) (inr m) =
              let a : Earlier G0 y.path (count Y y.path) q k =
              subst (λ i. Earlier G0 y.path (count Y y.path) q i) f.1 (subst (λ z. Earlier G0 y.path (count Y y.path) z (count r.before z)) f.0 m) in
              not_back G0 y.path q (count Y y.path) k a fy

  -- this event, that is not in a construct, and one that is
  after_out : {q : Path} {k : ℕ} (d : DetFork R q k) (X : Run) (x : Event) → Upto (x ∷ X) R
      → InConstruct (length d.branches.tasks) q k x.path (count X x.path) → (InConstruct (length d.branches.tasks) q k e.path (count R e.path) → ⊥)
      → Earlier H q k e.path (count R e.path) → Earlier H x.path (count X x.path) e.path (count R e.path)
  after_out {q} {k} d X x hx cx ne w = go (witness hx)
    where
      m : ℕ
      m = length d.branches.tasks

      go : (v : Event) × (V : Run) × Upto (v ∷ V) G0 × (near (construct_spot R e) v ≡ true) → Earlier H x.path (count X x.path) e.path (count R e.path)
      go v = ⊎_elim (sooner v.0 v.1 v.2 v.3 hx) (λ h. absurd (far h)) (either v.0 v.1 v.2 v.3 hx)
        where
          t : Event
          t = top v.0 v.1 v.2 v.3

          n : NewAt (construct_spot R e) o e e_in test G0
          n = new v.0 v.1 v.2 v.3

          r : Found R t.path t (mine n.rest t.path)
          r = zr v.0 v.1 v.2 v.3

          far : Earlier H e.path (count R e.path) x.path (count X x.path) → ⊥
          far ex = by_fork (either v.0 v.1 v.2 v.3 d.stands)
            where
              not_sooner : Upto (x ∷ (there hx).before) (t ∷ n.rest) → ⊥
              not_sooner h = not_back H e.path x.path (count R e.path) (count X x.path) ex (sooner v.0 v.1 v.2 v.3 hx h)

              not_o : Under o x.path → ⊥
              not_o u = not_sooner (near_sooner v.0 v.1 v.2 v.3 hx (test x u))

              xq : Under q x.path
              xq = (let c = cx in in_branch_under q k c.branch x.path (count X x.path) c.is)

              not_q : Under o q → ⊥
              not_q u = not_o (under_more o q x.path xq.below u xq.is)

              lower_branch : (ys : Path) (b : ℕ) → b < m → e.path ≡ ys ++ (k, b) ∷ q → ⊥
              lower_branch ys b lt p = ne (record { branch = b; there = lt; is = below ys p })

              -- what the event at the place is to the spot
              by_near : Under o t.path ⊎ ((u : ℕ × ℕ) × (p : Path) × (construct_spot R e ≡ Branch_of u p) × (t.path ≡ p) × (t.act ≡ Begin u.1))
              by_near = at_spot (construct_spot R e) refl
                where
                  at_spot : (s : Spot) → construct_spot R e ≡ s → Under o t.path
                      ⊎ ((u : ℕ × ℕ) × (p : Path) × (construct_spot R e ≡ Branch_of u p) × (t.path ≡ p) × (t.act ≡ Begin u.1))
                  at_spot (All_of p) sp = inl (subst (λ s. Under (group s) t.path) (sym sp) (of_true p t.path (ap (λ s. near s t) (sym sp) ∙ n.is_near)))
                  at_spot (Branch_of u p) sp = ⊎_elim (λ h. inl (subst (λ s. Under (group s) t.path) (sym sp) h)) (λ h. inr (u, p, sp, h.0, h.1))
                      (near_branch u p t (ap (λ s. near s t) (sym sp) ∙ n.is_near))

              -- the construct's fork at the place
              top_fork : d.event ≡ t → ⊥
              top_fork c = ⊎_elim (λ u. not_q (subst (λ z. Under o z) (ap (λ z. z.path) (sym c) ∙ d.path) u))
                  (λ b. (let z : Fork d.branches ≡ Begin b.0.1 = sym d.act ∙ ap (λ z. z.act) c ∙ b.4 in cc)) by_near

              -- an event of the construct at the place
              top_in_it : InConstruct m q k t.path (count r.before t.path) → ⊥
              top_in_it c = at_is c.is by_near
                where
                  at_is : InBranch q k c.branch t.path (count r.before t.path) → Under o t.path
                      ⊎ ((u : ℕ × ℕ) × (p : Path) × (construct_spot R e ≡ Branch_of u p) × (t.path ≡ p) × (t.act ≡ Begin u.1)) → ⊥
                  at_is (its_begin p i) (inl u) = not_q (subst (λ z. Under o z) p u)
                  at_is (below xs p) (inl u) = by_split (split u.below o xs q (k, c.branch) (sym u.is ∙ p))
                    where
                      by_split : Split o q (k, c.branch) → ⊥
                      by_split (lies_in h) = not_q h
                      by_split (lies_over ys h) = (let b = e_in in
                          lower_branch (b.below ++ ys) c.branch c.there (b.is ∙ ap (λ z. b.below ++ z) h ∙ sym (append_assoc b.below ys ((k, c.branch) ∷ q))))
                  at_is (below xs p) (inr b) =
                      let h = inner_under R e.path b.0 b.1 (spot_inner R e.path e.act b.0 b.1 b.2) in
                      lower_branch (h.below ++ b.0 ∷ xs) c.branch c.there
                      (h.is ∙ ap (λ z. h.below ++ b.0 ∷ z) (sym b.3 ∙ p) ∙ sym (append_assoc h.below (b.0 ∷ xs) ((k, c.branch) ∷ q)))
                  at_is (its_begin p i) (inr b) = by_order (cases_order b.0.0 k)
                    where
                      u : ℕ × ℕ
                      u = b.0

                      pq : b.1 ≡ q
                      pq = sym b.3 ∙ p

                      h : Under (u ∷ b.1) e.path
                      h = inner_under R e.path u b.1 (spot_inner R e.path e.act u b.1 b.2)

                      hq : e.path ≡ h.below ++ u ∷ q
                      hq = h.is ∙ ap (λ z. h.below ++ u ∷ z) pq

                      f : ForkAt R q u
                      f = fork_above P D h.below q u l now hq

                      number : count r.before b.1 ≡ suc (u.0 + u.1)
                      number = top_number v.0 v.1 v.2 v.3 u b.1 b.2 b.3 b.4

                      sum : k + c.branch ≡ u.0 + u.1
                      sum = (let j = ap (λ z. count r.before z) b.3 in omega (arith, number, i, j))

                      by_order : (b.0.0 ≡ k) ⊎ ((b.0.0 < k) ⊎ (k < b.0.0)) → ⊥
                      by_order (inl z) =
                          let y : u.1 ≡ c.branch = omega (arith, sum, z) in
                          let pe : u ≡ (k, c.branch) = (λ j. (z j, y j)) in
                          lower_branch h.below c.branch c.there (hq ∙ ap (λ w. h.below ++ w ∷ q) pe)
                      by_order (inr (inl z)) =
                          let dn = d.number in
                          let a = only_begins_so P D h.below q u l hq (mine d.before q) d.event (mine_at q d.stands d.path) (omega (arith, z, dn)) in
                          (let y : Fork d.branches ≡ Begin (count d.before q - suc u.0) = sym d.act ∙ a in cc)
                      by_order (inr (inr z)) =
                          let dn = d.number in
                          let fn = f.number in
                          let ct = c.there in
                          let a = begin_after P D q d.branches (u.0 - suc k) l.1 d.stands d.path d.act f.stands f.path (omega (arith, z, dn, fn))
                          (omega (arith, z, sum, ct)) in
                          (let y : Fork f.tasks ≡ Begin (u.0 - suc k) = sym f.act ∙ a in cc)

              by_fork : Upto (d.event ∷ (there d.stands).before) (t ∷ n.rest) ⊎ Earlier H e.path (count R e.path) d.event.path (count d.before d.event.path) → ⊥
              by_fork (inr y) = not_back H e.path q (count R e.path) k (to_fork d y) w
              by_fork (inl y) = ⊎_elim (λ c. top_fork c.0) (λ c. by_case c (construct_cases m q k t.path (count r.before t.path)))
                  (by_top v.0 v.1 v.2 v.3 d.stands y)
                where
                  by_case : Earlier G0 d.event.path (count d.before d.event.path) t.path (count r.before t.path)
                      → InConstruct m q k t.path (count r.before t.path) ⊎ (InConstruct m q k t.path (count r.before t.path) → ⊥) → ⊥
                  by_case c (inl i) = top_in_it i
                  by_case c (inr i) = not_sooner (not_after v.0 v.1 v.2 v.3 hx (rec.after_its_fork q k d X r.before x t hx r.stands cx i (of_fork d c)))

  -- this event, and one in an earlier branch of a construct
  turn_later : {q : Path} {k : ℕ} (a b : ℕ) (d : DetFork R q k) (X : Run) (x : Event) → Upto (x ∷ X) R → a < b → b < length d.branches.tasks
      → InBranch q k a x.path (count X x.path) → InBranch q k b e.path (count R e.path) → Earlier H x.path (count X x.path) e.path (count R e.path)
  turn_later {q} {k} a b d X x hx ab lt ix (its_begin p n) =
      sooner x (there hx).before (there hx).stands t hx (near_sooner x (there hx).before (there hx).stands t hx t)
    where
      t : near (construct_spot R e) x ≡ true
      t = ap (λ s. near s x) (spot_begin d b lt p (ap (λ z. count R z) (sym p) ∙ n)) ∙ true_of q x.path (in_branch_under q k a x.path (count X x.path) ix)
  turn_later {q} {k} a b d X x hx ab lt ix (below xs p) = go (witness hx)
    where
      go : (v : Event) × (V : Run) × Upto (v ∷ V) G0 × (near (construct_spot R e) v ≡ true) → Earlier H x.path (count X x.path) e.path (count R e.path)
      go v =
          let it = top_in_branch v.0 v.1 v.2 v.3 b d xs p in
          let r = zr v.0 v.1 v.2 v.3 in
          sooner v.0 v.1 v.2 v.3 hx (not_after v.0 v.1 v.2 v.3 hx (rec.in_turn q k a b d X r.before x (top v.0 v.1 v.2 v.3) hx r.stands ab lt ix it))

  turn_sooner : {q : Path} {k : ℕ} (a b : ℕ) (d : DetFork R q k) (Y : Run) (y : Event) → Upto (y ∷ Y) R → a < b → b < length d.branches.tasks
      → InBranch q k a e.path (count R e.path) → InBranch q k b y.path (count Y y.path) → Earlier H e.path (count R e.path) y.path (count Y y.path)
  turn_sooner {q} {k} a b d Y y hy ab lt (its_begin p n) iy = absurd (go iy)
    where
      nq : count R q ≡ suc (k + a)
      nq = ap (λ z. count R z) (sym p) ∙ n

      go : InBranch q k b y.path (count Y y.path) → ⊥
      go (its_begin p1 n1) =
          let i = number_of q hy p1 in
          let j = ap (λ z. count Y z) p1 in
          absurd (omega (arith, nq, n1, i, j, ab))
      go (below xs p1) =
          let f = fork_above P D xs q (k, b) l.1 hy p1 in
          let i = number_of q (upto_trans f.begin_stands (upto_tail hy)) f.begin_path in
          let j = f.begin_number in
          absurd (omega (arith, nq, i, j, ab))
  turn_sooner {q} {k} a b d Y y hy ab lt (below xs p) iy = go (witness hy)
    where
      go : (v : Event) × (V : Run) × Upto (v ∷ V) G0 × (near (construct_spot R e) v ≡ true) → Earlier H e.path (count R e.path) y.path (count Y y.path)
      go v = ⊎_elim (λ h. absurd (hit (by_top v.0 v.1 v.2 v.3 hy h))) (λ h. h) (either v.0 v.1 v.2 v.3 hy)
        where
          t : Event
          t = top v.0 v.1 v.2 v.3

          r : Found R t.path t (mine (new v.0 v.1 v.2 v.3).rest t.path)
          r = zr v.0 v.1 v.2 v.3

          ty : Earlier G0 t.path (count r.before t.path) y.path (count Y y.path)
          ty = rec.in_turn q k a b d r.before Y t y r.stands hy ab lt (top_in_branch v.0 v.1 v.2 v.3 a d xs p) iy

          hit : ((y ≡ t) × (count Y y.path ≡ count r.before t.path)) ⊎ Earlier G0 y.path (count Y y.path) t.path (count r.before t.path) → ⊥
          hit (inr m) = not_back G0 y.path t.path (count Y y.path) (count r.before t.path) m ty
          hit (inl m) =
              let c : Earlier G0 t.path (count r.before t.path) t.path (count r.before t.path) =
              subst (λ i. Earlier G0 t.path (count r.before t.path) t.path i) m.1
              (subst (λ z. Earlier G0 t.path (count r.before t.path) z.path (count Y y.path)) m.0 ty) in
              not_back G0 t.path t.path (count r.before t.path) (count r.before t.path) c c

  -- the fork of a construct of which there is an event stands in the run before
  abbrev old : {q : Path} {k : ℕ} (d : DetFork (e ∷ R) q k) → Upto (d.event ∷ d.before) R → DetFork R q k
  old d h = record { before = d.before; event = d.event; stands = h; path = d.path; number = d.number; branches = d.branches; act = d.act; det = d.det }

  fork_first : {q : Path} {k : ℕ} (d : DetFork (e ∷ R) q k) (b : ℕ) (X : Run) (x : Event) → Upto (x ∷ X) (e ∷ R) → InBranch q k b x.path (count X x.path)
      → Upto (d.event ∷ d.before) R
  fork_first {q} {k} d b X x hx ix = ⊎_elim (λ c. absurd (go c ix)) (λ c. c) (upto_split d.stands)
    where
      go : (d.event ≡ e) × (d.before ≡ R) → InBranch q k b x.path (count X x.path) → ⊥
      go c (its_begin p n) =
          let i = ap (λ z. count z q) c.1 in
          let j = d.number in
          let m = ap (λ z. count X z) p in
          by (upto_split hx) i j m
        where
          by : ((x ≡ e) × (X ≡ R)) ⊎ Upto (x ∷ X) R → count d.before q ≡ count R q → count d.before q ≡ k → count X x.path ≡ count X q → ⊥
          by (inl y) i j m = let z = ap (λ r. count r q) y.1 in absurd (omega arith)
          by (inr y) i j m = let z = number_of q y p in absurd (omega arith)
      go c (below xs p) =
          let f = fork_above P D xs q (k, b) l hx p in
          let fs = upto_trans f.stands (upto_under hx) in
          let i = number_of q fs f.path in
          let j = f.number in
          let m = ap (λ z. count z q) c.1 in
          let n = d.number in
          absurd (omega arith)
        where
          upto_under : {y : Event} {Y : Run} → Upto (y ∷ Y) (e ∷ R) → Upto Y R
          upto_under now = now
          upto_under (later h) = upto_tail h

  step_kept : (X Y : Run) (x y : Event) → Upto (x ∷ X) Y → Upto (y ∷ Y) (e ∷ R) → construct_spot X x ≡ construct_spot Y y
      → Earlier H x.path (count X x.path) y.path (count Y y.path)
  step_kept X Y x y hx hy k = go (upto_split hy)
    where
      go : ((y ≡ e) × (Y ≡ R)) ⊎ Upto (y ∷ Y) R → Earlier H x.path (count X x.path) y.path (count Y y.path)
      go (inr h) = keeps (rec.kept X Y x y hx h k)
      go (inl c) =
          subst (λ z. Earlier H x.path (count X x.path) z.path (count Y z.path)) (sym c.0)
          (subst (λ Z. Earlier H x.path (count X x.path) e.path (count Z e.path)) (sym c.1)
          (kept_here X x (subst (λ Z. Upto (x ∷ X) Z) c.1 hx) (k ∙ ap (λ z. construct_spot Y z) c.0 ∙ ap (λ Z. construct_spot Z e) c.1)))

  step_after : (q : Path) (k : ℕ) (d : DetFork (e ∷ R) q k) (X W : Run) (x z : Event) → Upto (x ∷ X) (e ∷ R) → Upto (z ∷ W) (e ∷ R)
      → InConstruct (length d.branches.tasks) q k x.path (count X x.path) → (InConstruct (length d.branches.tasks) q k z.path (count W z.path) → ⊥)
      → Earlier H q k z.path (count W z.path) → Earlier H x.path (count X x.path) z.path (count W z.path)
  step_after q k d X W x z hx hz cx nz w = go (upto_split hx) (upto_split hz)
    where
      d1 : DetFork R q k
      d1 = (let c = cx in old d (fork_first d c.branch X x hx c.is))

      m : ℕ
      m = length d.branches.tasks

      back_in : {y : Event} {Y : Run} → Upto (y ∷ Y) R → Earlier H q k y.path (count Y y.path) → Earlier G0 q k y.path (count Y y.path)
      back_in hy v = of_fork d1 (back d1.stands hy (from_fork d1 v))

      go : ((x ≡ e) × (X ≡ R)) ⊎ Upto (x ∷ X) R → ((z ≡ e) × (W ≡ R)) ⊎ Upto (z ∷ W) R → Earlier H x.path (count X x.path) z.path (count W z.path)
      go (inr h) (inr i) = keeps (rec.after_its_fork q k d1 X W x z h i cx nz (back_in i w))
      go (inl h) (inl i) = absurd (nz (subst (λ y. InConstruct m q k y.path (count W y.path)) (h.0 ∙ sym i.0)
          (subst (λ Y. InConstruct m q k x.path (count Y x.path)) (h.1 ∙ sym i.1) cx)))
      go (inl h) (inr i) =
          subst (λ y. Earlier H y.path (count X y.path) z.path (count W z.path)) (sym h.0)
          (subst (λ Y. Earlier H e.path (count Y e.path) z.path (count W z.path)) (sym h.1)
          (after_in d1 W z i (subst (λ Y. InConstruct m q k e.path (count Y e.path)) h.1
          (subst (λ y. InConstruct m q k y.path (count X y.path)) h.0 cx)) nz w))
      go (inr h) (inl i) =
          subst (λ y. Earlier H x.path (count X x.path) y.path (count W y.path)) (sym i.0)
          (subst (λ Y. Earlier H x.path (count X x.path) e.path (count Y e.path)) (sym i.1)
          (after_out d1 X x h cx (λ c. nz (subst (λ y. InConstruct m q k y.path (count W y.path)) (sym i.0)
          (subst (λ Y. InConstruct m q k e.path (count Y e.path)) (sym i.1) c)))
          (subst (λ Y. Earlier H q k e.path (count Y e.path)) i.1 (subst (λ y. Earlier H q k y.path (count W y.path)) i.0 w))))

  step_turn : (q : Path) (k a b : ℕ) (d : DetFork (e ∷ R) q k) (X Y : Run) (x y : Event) → Upto (x ∷ X) (e ∷ R) → Upto (y ∷ Y) (e ∷ R) → a < b
      → b < length d.branches.tasks → InBranch q k a x.path (count X x.path) → InBranch q k b y.path (count Y y.path)
      → Earlier H x.path (count X x.path) y.path (count Y y.path)
  step_turn q k a b d X Y x y hx hy ab lt ix iy = go (upto_split hx) (upto_split hy)
    where
      d1 : DetFork R q k
      d1 = old d (fork_first d a X x hx ix)

      go : ((x ≡ e) × (X ≡ R)) ⊎ Upto (x ∷ X) R → ((y ≡ e) × (Y ≡ R)) ⊎ Upto (y ∷ Y) R → Earlier H x.path (count X x.path) y.path (count Y y.path)
      go (inr h) (inr i) = keeps (rec.in_turn q k a b d1 X Y x y h i ab lt ix iy)
      go (inl h) (inr i) =
          subst (λ z. Earlier H z.path (count X z.path) y.path (count Y y.path)) (sym h.0)
          (subst (λ Z. Earlier H e.path (count Z e.path) y.path (count Y y.path)) (sym h.1)
          (turn_sooner a b d1 Y y i ab lt (subst (λ Z. InBranch q k a e.path (count Z e.path)) h.1
          (subst (λ z. InBranch q k a z.path (count X z.path)) h.0 ix)) iy))
      go (inr h) (inl i) =
          subst (λ z. Earlier H x.path (count X x.path) z.path (count Y z.path)) (sym i.0)
          (subst (λ Z. Earlier H x.path (count X x.path) e.path (count Z e.path)) (sym i.1)
          (turn_later a b d1 X x h ab lt ix (subst (λ Z. InBranch q k b e.path (count Z e.path)) i.1
          (subst (λ z. InBranch q k b z.path (count Y z.path)) i.0 iy))))
      go (inl h) (inl i) = absurd (one_branch (subst (λ z. InBranch q k a z.path (count Y z.path)) (h.0 ∙ sym i.0)
          (subst (λ Z. InBranch q k a x.path (count Z x.path)) (h.1 ∙ sym i.1) ix)) iy)
        where
          one_branch : InBranch q k a y.path (count Y y.path) → InBranch q k b y.path (count Y y.path) → ⊥
          one_branch (its_begin p n) (its_begin p1 n1) = absurd (omega (arith, n, n1, ab))
          one_branch (its_begin p n) (below xs p1) = not_below_self q xs (k, b) (sym p ∙ p1)
          one_branch (below xs p) (its_begin p1 n1) = not_below_self q xs (k, a) (sym p1 ∙ p)
          one_branch (below xs p) (below ys p1) = by_split (split xs ((k, a) ∷ q) ys q (k, b) (sym p ∙ p1))
            where
              at : (ws : Path) → (k, a) ∷ q ≡ ws ++ (k, b) ∷ q → ⊥
              at [] z = (let v = second_of (k, a) (k, b) q q z in absurd (omega (arith, v, ab)))
              at (w ∷ ws) z = (let u : q ≡ ws ++ (k, b) ∷ q = cc in not_below_self q ws (k, b) u)

              by_split : Split ((k, a) ∷ q) q (k, b) → ⊥
              by_split (lies_in h) = not_below_self q h.below (k, a) h.is
              by_split (lies_over ws z) = at ws z

  step_in_place : AfterForks (e ∷ R) H
  step_in_place = record { kept = step_kept; after_its_fork = step_after; in_turn = step_turn }

pub nothing_placed : AfterForks [] (move [])
nothing_placed = record {
  kept = λ X Y x y hx hy k. absurd (upto_none hy);
  after_its_fork = λ q k d X Z x z hx. absurd (upto_none hx);
  in_turn = λ q k a b d X Y x y hx. absurd (upto_none hx);
}

pub placed_next : (P : Program) → Disciplined P → (R : Run) (e : Event) → Faithful P (e ∷ R) → Rebuilt P R (move R) → AfterForks R (move R)
    → AfterForks (e ∷ R) (move (e ∷ R))
placed_next P D R e l g rec = subst (AfterForks (e ∷ R)) (sym (rearranged_step construct_spot e R)) (step_in_place P D R e l (move R) g rec)

module _ (P : Program) (D : Disciplined P) (known : Known P) where
  pub after_forks : (R : Run) → Valid P R → LevelsGuarded P.rule R → AfterForks R (move R)
  after_forks [] l f = nothing_placed
  after_forks (e ∷ R) l f =
      let less = levels_upto (later now) f in
      placed_next P D R e (faithful_of P (e ∷ R) l) (moved P D known R l.1 less) (after_forks R l.1 less)
