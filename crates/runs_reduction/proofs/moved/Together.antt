-- In the gathered run, moved, each block's events stand together.
use Rattle.std.proofs.Common.{◌≡◌, ℕ, zero, suc, ◌+◌, ◌<◌, ◌⊎◌, inl, inr, ⊎_elim, List, ◌∷◌, ◌++◌, length, refl, sym, ap, ◌∙◌, subst, arith, append_assoc, if◌then◌else◌}
use Rattle.std.proofs.lemmas.Bool.{cases_order}
use Rattle.runs_theory.specs.Actions.{Action, Begin, Do, End, Enter, Fork, Join, Program}
use Rattle.runs_theory.specs.Meaning.{Disciplined, InTurn}
use Rattle.runs_theory.specs.Objects.{Effect, Path}
use Rattle.runs_theory.specs.Runs.{Event, Faithful, Run, Upto, count, mine}
use Rattle.runs_reduction.specs.Gathered.{Anchor, Together, entry, itself}
use Rattle.runs_reduction.specs.Insertion.{All_of, Earlier}
use Rattle.runs_reduction.specs.Moved.{AfterForks, DetFork, InBranch, InConstruct, below, construct_spot, inner, is_det, its_begin, spot_of}
use Rattle.runs_theory.proofs.events.Upto.{upto_length, upto_tail, Which, which, same_one, before, after}
use Rattle.runs_theory.proofs.events.Mine.{mine_upto}
use Rattle.runs_theory.proofs.events.Places.{not_below_self}
use Rattle.runs_theory.proofs.runs.Faithful.{faithful_upto, follows_at}
use Rattle.runs_reduction.proofs.shifts.Under.{Under}
use Rattle.runs_reduction.proofs.shifts.Shifts.{not_back}
use Rattle.runs_reduction.proofs.gathered.AtEntries.{anchor_of, anchor_stands, same_place}
use Rattle.runs_reduction.proofs.moved.AfterForks.{construct_cases}
use Rattle.runs_reduction.proofs.moved.Loose.{inner_same}
use Rattle.runs_reduction.proofs.moved.Homes.{Alike, Along, Begins, Sooner, there, stands_sooner, trans, order, never_same, of_fork, from_fork, fork_before, fork_sooner, begin_sooner, home, same_spot}
use Rattle.runs_reduction.proofs.moved.InBlocks.{anchor_one, anchor_under, in_block, fork_in_block}

spot_same : (S T : Run) (p : Path) (a : Action) → inner S p ≡ inner T p → mine S p ≡ mine T p → spot_of S p a ≡ spot_of T p a
spot_same S T p (Begin b) i m = ap (λ l. if is_det l then All_of p else inner S p) m ∙ ap (λ s. if is_det (mine T p) then All_of p else s) i
spot_same S T p (Do o) i m = i
spot_same S T p (Fork ts) i m = i
spot_same S T p Join i m = i
spot_same S T p (End x) i m = i

-- M is G with each construct's events after its fork, all by the events of R
record Laid (P : Program) (R G M : Run) : Type 0 where
  first : Alike P R G
  second : Alike P R M
  kept : (X Y : Run) (x y : Event) → Upto (x ∷ X) R → Upto (y ∷ Y) R → construct_spot X x ≡ construct_spot Y y → Sooner G x X y Y → Sooner M x X y Y
  after_fork : (q : Path) (k : ℕ) (d : DetFork R q k) (X Z : Run) (x z : Event) → Upto (x ∷ X) R → Upto (z ∷ Z) R
      → InConstruct (length d.branches.tasks) q k x.path (count X x.path) → (InConstruct (length d.branches.tasks) q k z.path (count Z z.path) → ⊥)
      → Earlier M q k z.path (count Z z.path) → Sooner M x X z Z
  in_turn : (q : Path) (k a b : ℕ) (d : DetFork R q k) (X Y : Run) (x y : Event) → Upto (x ∷ X) R → Upto (y ∷ Y) R → a < b → b < length d.branches.tasks
      → InBranch q k a x.path (count X x.path) → InBranch q k b y.path (count Y y.path) → Sooner M x X y Y

module _ {P : Program} {R G M : Run} (l : Faithful P R) (g : Alike P R G) (m : Alike P R M) (f : AfterForks G M) where
  -- an event of R in G
  number : {x : Event} {X : Run} (hx : Upto (x ∷ X) R) → count (there g hx).before x.path ≡ count X x.path
  number hx = ap length (there g hx).mine_is

  fork_there : {q : Path} {k : ℕ} → DetFork R q k → DetFork G q k
  fork_there {q} {k} d = record {
    before = (there g d.stands).before;
    event = d.event;
    stands = (there g d.stands).stands;
    path = d.path;
    number = ap (count (there g d.stands).before) (sym d.path) ∙ number d.stands ∙ ap (count d.before) d.path ∙ d.number;
    branches = d.branches;
    act = d.act;
    det = d.det;
  }

  spot_at : {x : Event} {X : Run} (hx : Upto (x ∷ X) R) → construct_spot (there g hx).before x ≡ construct_spot X x
  spot_at {x} {X} hx =
      let t = there g hx in
      let at_g = follows_at P t.stands g.faithful in
      let at_r = follows_at P hx l in
      let a = inner_same P (faithful_upto P (upto_tail t.stands) g.faithful)
      (record { each = λ p. subst (λ es. Upto (mine t.before p) es) (g.same p) (mine_upto p (upto_tail t.stands)) }) x.path at_g.begun in
      let b = inner_same P (faithful_upto P (upto_tail hx) l) (record { each = λ p. mine_upto p (upto_tail hx) }) x.path at_r.begun in
      spot_same t.before X x.path x.act (a ∙ sym b) t.mine_is

  by_numbers : {p q : Path} {i j k n : ℕ} → i ≡ j → k ≡ n → Earlier M p i q k → Earlier M p j q n
  by_numbers {p} {q} {i} {j} {k} {n} a b w = subst (λ z. Earlier M p j q z) b (subst (λ z. Earlier M p z q k) a w)

  laid : Laid P R G M
  unfolding fork_there
  laid = record {
    first = g;
    second = m;
    kept = λ X Y x y hx hy e s. by_numbers (number hx) (number hy) (f.kept (there g hx).before (there g hy).before x y (stands_sooner g hx hy s)
        (there g hy).stands (spot_at hx ∙ e ∙ sym (spot_at hy)));
    after_fork = λ q k d X Z x z hx hz i o w. by_numbers (number hx) (number hz)
        (f.after_its_fork q k (fork_there d) (there g hx).before (there g hz).before x z (there g hx).stands (there g hz).stands
        (subst (λ n. InConstruct (length d.branches.tasks) q k x.path n) (sym (number hx)) i)
        (λ c. o (subst (λ n. InConstruct (length d.branches.tasks) q k z.path n) (number hz) c))
        (by_numbers refl (sym (number hz)) w));
    in_turn = λ q k a b d X Y x y hx hy s t i j. by_numbers (number hx) (number hy)
        (f.in_turn q k a b (fork_there d) (there g hx).before (there g hy).before x y (there g hx).stands (there g hy).stands s t
        (subst (λ n. InBranch q k a x.path n) (sym (number hx)) i) (subst (λ n. InBranch q k b y.path n) (sym (number hy)) j));
  }

module _ (P : Program) (D : Disciplined P) (T : InTurn P) {R G M : Run} (l : Faithful P R) (t : Together R G) (m : Laid P R G M) (A : Run) (a : Event)
    (E : List Effect) (enters : a.act ≡ Do (Enter E)) where
  -- between two events of the block that a entered stands none that is not of it, where three stand early in R
  abbrev NoneBetween : ℕ → Type 0
  NoneBetween n = (X Y Z B : Run) (x y z b : Event) → Upto (x ∷ X) R → Upto (y ∷ Y) R → Upto (z ∷ Z) R → Anchor X x A a → Anchor Y y B b → Anchor Z z A a
      → length X + (length Y + length Z) < n → Sooner M x X y Y → Sooner M y Y z Z → (A ≡ B → ⊥) → ⊥

  -- what is below a branch that the block is in
  in_it : {q : Path} {k b : ℕ} {W : Run} {w : Event} → Under ((k, b) ∷ q) a.path → Upto (w ∷ W) R → Anchor W w A a → InBranch q k b w.path (count W w.path)
  in_it {q} {k} {b} u hw aw =
      let v = anchor_under P D l hw aw in
      below (v.below ++ u.below) (v.is ∙ ap (λ r. v.below ++ r) u.is ∙ sym (append_assoc v.below u.below ((k, b) ∷ q)))

  contrary : {p q : Path} {i j : ℕ} → Earlier M p i q j → Earlier M q j p i → ⊥
  contrary {p} {q} {i} {j} v w = not_back M p q i j v w

  module _ (n : ℕ) (rec : NoneBetween n) {X Y Z B : Run} {x y z b : Event} (hx : Upto (x ∷ X) R) (hy : Upto (y ∷ Y) R) (hz : Upto (z ∷ Z) R)
      (ax : Anchor X x A a) (ay : Anchor Y y B b) (az : Anchor Z z A a) (size : length X + (length Y + length Z) < suc n) (xy : Sooner M x X y Y)
      (yz : Sooner M y Y z Z) (ne : A ≡ B → ⊥) where
    -- the fork of a construct that y is in is not of the block
    fork_out : {q : Path} {k c : ℕ} (d : DetFork R q k) → c < length d.branches.tasks → InBranch q k c y.path (count Y y.path) → Anchor d.before d.event A a → ⊥
    fork_out d lt i f = ne (in_block P D l d lt hy i E enters f ay)

    -- where the ends are in one branch y is in it
    both_in : {q : Path} {k c : ℕ} (d : DetFork R q k) → c < length d.branches.tasks → InBranch q k c x.path (count X x.path)
        → InBranch q k c z.path (count Z z.path) → (InBranch q k c y.path (count Y y.path) → ⊥) → ⊥
    both_in {q} {k} {c} d lt ix iz not = go (construct_cases (length d.branches.tasks) q k y.path (count Y y.path))
      where
        fork_first : Earlier M q k y.path (count Y y.path)
        fork_first = of_fork d (trans m.second d.stands hx hy (from_fork d (fork_sooner P D m.second d hx ix)) xy)

        go : InConstruct (length d.branches.tasks) q k y.path (count Y y.path) ⊎ (InConstruct (length d.branches.tasks) q k y.path (count Y y.path) → ⊥) → ⊥
        go (inr out) = contrary yz (m.after_fork q k d Z Y z y hz hy (record { branch = c; there = lt; is = iz }) out fork_first)
        go (inl i) = by_order (cases_order c i.branch)
          where
            by_order : (c ≡ i.branch) ⊎ ((c < i.branch) ⊎ (i.branch < c)) → ⊥
            by_order (inl e) = not (subst (λ j. InBranch q k j y.path (count Y y.path)) (sym e) i.is)
            by_order (inr (inl s)) = contrary yz (m.in_turn q k c i.branch d Z Y z y hz hy s i.there iz i.is)
            by_order (inr (inr s)) = contrary xy (m.in_turn q k i.branch c d Y X y x hy hx s lt i.is ix)

    x_in : Along R X x Y y
    x_in q k c d lt ix not = go (fork_in_block P D l d lt hx ix E enters ax)
      where
        earlier : length d.before < length X
        earlier = upto_length (fork_before P D l d hx ix)

        fork_first : Sooner M d.event d.before y Y
        fork_first = trans m.second d.stands hx hy (from_fork d (fork_sooner P D m.second d hx ix)) xy

        go : Anchor d.before d.event A a ⊎ Under ((k, c) ∷ q) a.path → ⊥
        go (inr u) = both_in d lt ix (in_it u hz az) not
        go (inl f) = ⊎_elim (λ i. fork_out d i.there i.is f)
            (λ out. rec d.before Y Z B d.event y z b d.stands hy hz f ay az (omega (arith, size, earlier)) fork_first yz ne)
            (construct_cases (length d.branches.tasks) q k y.path (count Y y.path))

    z_in : Along R Z z Y y
    z_in q k c d lt iz not = go (fork_in_block P D l d lt hz iz E enters az)
      where
        earlier : length d.before < length Z
        earlier = upto_length (fork_before P D l d hz iz)

        fork_first : Sooner M d.event d.before z Z
        fork_first = from_fork d (fork_sooner P D m.second d hz iz)

        by_fork : Anchor d.before d.event A a → (InConstruct (length d.branches.tasks) q k y.path (count Y y.path) → ⊥)
            → ((d.event ≡ y) × (d.before ≡ Y)) ⊎ (Sooner M d.event d.before y Y ⊎ Sooner M y Y d.event d.before) → ⊥
        by_fork f out (inl s) = ne (anchor_one (subst (λ S. Anchor S y A a) s.1 (subst (λ v. Anchor d.before v A a) s.0 f)) ay)
        by_fork f out (inr (inl s)) = contrary yz (m.after_fork q k d Z Y z y hz hy (record { branch = c; there = lt; is = iz }) out (of_fork d s))
        by_fork f out (inr (inr s)) = rec X Y d.before B x y d.event b hx hy d.stands ax ay f (omega (arith, size, earlier)) xy s ne

        go : Anchor d.before d.event A a ⊎ Under ((k, c) ∷ q) a.path → ⊥
        go (inr u) = both_in d lt (in_it u hx ax) iz not
        go (inl f) = ⊎_elim (λ i. fork_out d i.there i.is f) (λ out. by_fork f out (order m.second d.stands hy))
            (construct_cases (length d.branches.tasks) q k y.path (count Y y.path))

    y_in : (q : Path) (k c : ℕ) (d : DetFork R q k) → c < length d.branches.tasks → InBranch q k c y.path (count Y y.path)
        → (InBranch q k c x.path (count X x.path) → InBranch q k c z.path (count Z z.path) → ⊥) → ⊥
    y_in q k c d lt iy not = go (construct_cases (length d.branches.tasks) q k x.path (count X x.path))
        (construct_cases (length d.branches.tasks) q k z.path (count Z z.path))
      where
        earlier : length d.before < length Y
        earlier = upto_length (fork_before P D l d hy iy)

        fork_first : Sooner M d.event d.before z Z
        fork_first = trans m.second d.stands hy hz (from_fork d (fork_sooner P D m.second d hy iy)) yz

        by_order : (e : ℕ) → e < length d.branches.tasks → InBranch q k e x.path (count X x.path) → InBranch q k e z.path (count Z z.path)
            → (e ≡ c) ⊎ ((e < c) ⊎ (c < e)) → ⊥
        by_order e le ix iz (inl s) =
            not (subst (λ j. InBranch q k j x.path (count X x.path)) s ix) (subst (λ j. InBranch q k j z.path (count Z z.path)) s iz)
        by_order e le ix iz (inr (inl s)) = contrary yz (m.in_turn q k e c d Z Y z y hz hy s lt iz iy)
        by_order e le ix iz (inr (inr s)) = contrary xy (m.in_turn q k c e d Y X y x hy hx s le iy ix)

        other_block : (C : Run) (c : Event) → Anchor d.before d.event C c → A ≡ C → ⊥
        other_block C v f e =
            let same : v ≡ a = same_place (anchor_stands d.stands f) (anchor_stands hx ax) (sym e) in
            fork_out d lt iy (subst (λ S. Anchor d.before d.event S a) (sym e) (subst (λ w. Anchor d.before d.event C w) same f))

        by_fork : (InConstruct (length d.branches.tasks) q k x.path (count X x.path) → ⊥)
            → ((d.event ≡ x) × (d.before ≡ X)) ⊎ (Sooner M d.event d.before x X ⊎ Sooner M x X d.event d.before) → ⊥
        by_fork out (inl s) = fork_out d lt iy (subst (λ S. Anchor S d.event A a) (sym s.1) (subst (λ v. Anchor X v A a) (sym s.0) ax))
        by_fork out (inr (inl s)) = contrary xy (m.after_fork q k d Y X y x hy hx (record { branch = c; there = lt; is = iy }) out (of_fork d s))
        by_fork out (inr (inr s)) =
            let f = anchor_of P D d.before d.event l d.stands in
            rec X d.before Z f.0 x d.event z f.1 hx d.stands hz ax f.2 az (omega (arith, size, earlier)) s fork_first (other_block f.0 f.1 f.2)

        go : InConstruct (length d.branches.tasks) q k x.path (count X x.path) ⊎ (InConstruct (length d.branches.tasks) q k x.path (count X x.path) → ⊥)
            → InConstruct (length d.branches.tasks) q k z.path (count Z z.path) ⊎ (InConstruct (length d.branches.tasks) q k z.path (count Z z.path) → ⊥) → ⊥
        go (inl i) j = ⊎_elim (λ f. fork_out d lt iy f) (λ u. by_order i.branch i.there i.is (in_it u hz az) (cases_order i.branch c))
            (fork_in_block P D l d i.there hx i.is E enters ax)
        go (inr out) (inl i) = ⊎_elim (λ f. fork_out d lt iy f) (λ u. out (record { branch = i.branch; there = i.there; is = in_it u hx ax }))
            (fork_in_block P D l d i.there hz i.is E enters az)
        go (inr out) (inr away) = by_fork out (order m.second d.stands hx)

    -- where an end begins a branch y is not in it
    end_begins : {W : Run} {w : Event} → Upto (w ∷ W) R → Anchor W w A a → Begins R W w Y y
    end_begins {W} {w} hw aw q k c d lt p i iy = go (fork_in_block P D l d lt hw (its_begin p i) E enters aw)
      where
        go : Anchor d.before d.event A a ⊎ Under ((k, c) ∷ q) a.path → ⊥
        go (inl f) = fork_out d lt iy f
        go (inr u) =
            let v = anchor_under P D l hw aw in
            not_below_self q (v.below ++ u.below) (k, c)
            (sym p ∙ v.is ∙ ap (λ r. v.below ++ r) u.is ∙ sym (append_assoc v.below u.below ((k, c) ∷ q)))

    y_begins : Begins R Y y X x
    y_begins q k c d lt p i (its_begin r o) = never_same m.second x y X Y xy (r ∙ sym p) (o ∙ sym i)
    y_begins q k c d lt p i (below xs r) =
        let w = begin_sooner P D q k c xs m.second hx r in
        contrary xy (subst (λ j. Earlier M y.path j x.path (count X x.path)) (sym i)
        (subst (λ v. Earlier M v (suc (k + c)) x.path (count X x.path)) (sym p) w))

    kept_order : {V W : Run} {v w : Event} → (hv : Upto (v ∷ V) R) → (hw : Upto (w ∷ W) R) → construct_spot V v ≡ construct_spot W w → Sooner M v V w W
        → Sooner G v V w W
    kept_order {V} {W} {v} {w} hv hw e s = go (order m.first hv hw)
      where
        go : ((v ≡ w) × (V ≡ W)) ⊎ (Sooner G v V w W ⊎ Sooner G w W v V) → Sooner G v V w W
        go (inl o) = absurd (never_same m.second v w V W s (ap (λ u. u.path) o.0) (λ j. count (o.1 j) (o.0 j).path))
        go (inr (inl o)) = o
        go (inr (inr o)) = absurd (contrary s (m.kept W V w v hw hv (sym e) o))

    never_between : ⊥
    never_between = same_spot P D l hx hy x_in (λ q k c d lt i not. y_in q k c d lt i (λ ix iz. not ix)) (end_begins hx ax) y_begins (home P D T l hx) (home P D T l hy)
        (λ sx. same_spot P D l hz hy z_in (λ q k c d lt i not. y_in q k c d lt i (λ ix iz. not iz)) (end_begins hz az)
        (λ q k c d lt p i iz. y_in q k c d lt (its_begin p i) (λ ix k1. y_begins q k c d lt p i ix)) (home P D T l hz) (home P D T l hy)
        (λ sz. ne (t.none_between X Y Z A B A x y z a b a hx hy hz ax ay az refl (kept_order hx hy sx xy) (kept_order hy hz (sym sz) yz))))

  none_between : (n : ℕ) → NoneBetween n
  none_between zero X Y Z B x y z b hx hy hz ax ay az size xy yz ne = omega (arith, size)
  none_between (suc n) X Y Z B x y z b hx hy hz ax ay az size xy yz ne = never_between n (none_between n) hx hy hz ax ay az size xy yz ne

module _ (P : Program) (D : Disciplined P) (T : InTurn P) {R G M : Run} (l : Faithful P R) (t : Together R G) (m : Laid P R G M) where
  -- an event with two others of one block around it
  between : (X Y Z A B : Run) (x y z a b : Event) → Upto (x ∷ X) R → Upto (y ∷ Y) R → Upto (z ∷ Z) R → Anchor X x A a → Anchor Y y B b → Anchor Z z A a
      → Sooner M x X y Y → Sooner M y Y z Z → (A ≡ B → ⊥) → ⊥
  between X Y Z A B x y z a b hx hy hz ax ay az xy yz ne = go ax az
    where
      by_entry : (E : List Effect) → a.act ≡ Do (Enter E) → ⊥
      by_entry E enters = none_between P D T l t m A a E enters (suc (length X + (length Y + length Z))) X Y Z B x y z b hx hy hz ax ay az (omega arith) xy yz ne

      go : Anchor X x A a → Anchor Z z A a → ⊥
      go (entry o E s e) k = by_entry E e.act
      go (itself s p e) (entry o E s1 e1) = by_entry E e1.act
      go (itself s p e) (itself s1 p1 e1) =
          let same : x ≡ z = sym e ∙ e1 in
          let runs : X ≡ Z = sym p ∙ p1 in
          never_same m.second x z X Z (trans m.second hx hy hz xy yz) (ap (λ v. v.path) same) (λ j. count (runs j) (same j).path)

  each_between : (X Y Z A B C : Run) (x y z a b c : Event) → Upto (x ∷ X) R → Upto (y ∷ Y) R → Upto (z ∷ Z) R → Anchor X x A a → Anchor Y y B b
      → Anchor Z z C c → A ≡ C → Sooner M x X y Y → Sooner M y Y z Z → A ≡ B
  each_between X Y Z A B C x y z a b c hx hy hz ax ay az ac xy yz = go (which (anchor_stands hx ax) (anchor_stands hy ay))
    where
      end : Anchor Z z A a
      end =
          let same : c ≡ a = same_place (anchor_stands hz az) (anchor_stands hx ax) (sym ac) in
          subst (λ S. Anchor Z z S a) (sym ac) (subst (λ v. Anchor Z z C v) same az)

      apart : length A < length B ⊎ length B < length A → A ≡ B
      apart k = absurd (between X Y Z A B x y z a b hx hy hz ax ay end xy yz (λ e. (let s = ap length e in ⊎_elim (λ j. omega arith) (λ j. omega arith) k)))

      go : Which a A b B → A ≡ B
      go (same_one v w) = w
      go (before h) = apart (inl (upto_length h))
      go (after h) = apart (inr (upto_length h))

pub moved_together : (P : Program) → Disciplined P → InTurn P → {R G M : Run} → Faithful P R → Alike P R G → Alike P R M → Together R G → AfterForks G M
    → Together R M
moved_together P D T {R} {G} {M} l g m t f = record {
  none_between = λ X Y Z A B C x y z a b c hx hy hz ax ay az ac xy yz.
      each_between P D T l t (laid l g m f) X Y Z A B C x y z a b c hx hy hz ax ay az ac xy yz;
}
