-- The run with each deterministic construct directly after its fork is one.
use Rattle.std.proofs.Common.{◌≡◌, ℕ, zero, suc, ◌+◌, ◌<◌, ◌⊎◌, inl, inr, ⊎_elim, ◌∷◌, length, sym, ap}
use Rattle.std.proofs.Common.{◌∙◌, subst, arith}
use Rattle.std.proofs.lemmas.Bool.{cases_order, cases_eq}
use Rattle.runs_theory.specs.Actions.{Program}
use Rattle.runs_theory.specs.Meaning.{Disciplined, InTurn}
use Rattle.runs_theory.specs.Objects.{Path, size}
use Rattle.runs_theory.specs.Runs.{Event, Faithful, Run, Upto, count, mine}
use Rattle.runs_reduction.specs.Insertion.{Earlier}
use Rattle.runs_reduction.specs.Moved.{AfterForks, DetFork, InBranch, InConstruct, below, construct_spot, its_begin}
use Rattle.runs_reduction.specs.Insertion.{Earlier}
use Rattle.runs_reduction.specs.Insertion.{Earlier}
use Rattle.runs_theory.proofs.events.Upto.{upto_length, Which, which, same_one, before, after}
use Rattle.runs_theory.proofs.events.Mine.{path_cases, number_of, numbered}
use Rattle.runs_reduction.proofs.moved.AfterForks.{construct_cases}
use Rattle.runs_reduction.proofs.shifts.Shifts.{not_back}
use Rattle.runs_reduction.proofs.gathered.OneGathered.{Compares, Keeps, same_order}
use Rattle.runs_reduction.proofs.moved.Homes.{Alike, Sooner, Home, trans, either, never_same, fork_before, fork_sooner, begin_sooner, home, of_fork, from_fork, same_spot}

-- a run with the events of R, in which constructs stand after their forks
record Fine (P : Program) (R G : Run) : Type 0 where
  alike : Alike P R G
  placed : AfterForks R G

module _ (P : Program) (D : Disciplined P) (T : InTurn P) (R : Run) (l : Faithful P R) where
  -- no two events of a smaller run are swapped, in either of two runs
  abbrev NoSwap : ℕ → Type 0
  NoSwap n = (G H X Y : Run) (x y : Event) → Fine P R G → Fine P R H → Upto (x ∷ X) R → Upto (y ∷ Y) R → length X + length Y < n → Sooner G x X y Y
      → Sooner H y Y x X → ⊥

  module _ (n : ℕ) (rec : NoSwap n) {G H X Y : Run} {x y : Event} (g : Fine P R G) (h : Fine P R H) (hx : Upto (x ∷ X) R) (hy : Upto (y ∷ Y) R)
      (size : length X + length Y < suc n)
      (gs : Sooner G x X y Y) (hs : Sooner H y Y x X) where
    -- the other is not in a construct of the one: so it is swapped with the fork
    leaves : {q : Path} {k b : ℕ} (d : DetFork R q k) → b < length d.branches.tasks → InBranch q k b x.path (count X x.path)
        → (InConstruct (length d.branches.tasks) q k y.path (count Y y.path) → ⊥) → ⊥
    leaves {q} {k} {b} d lt ix out = by_same (path_cases q y.path) (cases_eq k (count Y y.path))
      where
        fx : Upto (d.event ∷ d.before) X
        fx = fork_before P D l d hx ix

        inside : InConstruct (length d.branches.tasks) q k x.path (count X x.path)
        inside = record { branch = b; there = lt; is = ix }

        not_fork : (d.event.path ≡ y.path → count d.before d.event.path ≡ count Y y.path → ⊥) → ⊥
        not_fork m = go (either g.alike d.stands hy m) (either h.alike d.stands hy m)
          where
            go : Sooner G d.event d.before y Y ⊎ Sooner G y Y d.event d.before → Sooner H d.event d.before y Y ⊎ Sooner H y Y d.event d.before → ⊥
            go (inr a) b = not_back G x.path y.path (count X x.path) (count Y y.path) gs (trans g.alike hy d.stands hx a (from_fork d (fork_sooner P D g.alike d hx ix)))
            go (inl a) (inl b) = let pl = h.placed in not_back H y.path x.path (count Y y.path) (count X x.path) hs
                (pl.after_its_fork q k d X Y x y hx hy inside out (of_fork d b))
            go (inl a) (inr b) = rec G H d.before Y d.event y g h d.stands hy (let i = upto_length fx in omega arith) a b

        by_same : (q ≡ y.path) ⊎ (q ≡ y.path → ⊥) → (k ≡ count Y y.path) ⊎ (k ≡ count Y y.path → ⊥) → ⊥
        by_same (inl a) (inl c) =
            let w : Earlier G y.path (count Y y.path) x.path (count X x.path) =
            subst (λ i. Earlier G y.path i x.path (count X x.path)) c (subst (λ r. Earlier G r k x.path (count X x.path)) a (fork_sooner P D g.alike d hx ix)) in
            not_back G x.path y.path (count X x.path) (count Y y.path) gs w
        by_same (inr a) c = not_fork (λ p m. a (sym d.path ∙ p))
        by_same (inl a) (inr c) = not_fork (λ p m. c (sym d.number ∙ ap (λ r. count d.before r) (sym d.path) ∙ m))

    -- so it is, and in the same branch
    same_branch : {q : Path} {k b : ℕ} (d : DetFork R q k) → b < length d.branches.tasks → InBranch q k b x.path (count X x.path)
        → (InBranch q k b y.path (count Y y.path) → ⊥) → ⊥
    same_branch {q} {k} {b} d lt ix n = go (construct_cases (length d.branches.tasks) q k y.path (count Y y.path))
      where
        go : InConstruct (length d.branches.tasks) q k y.path (count Y y.path) ⊎ (InConstruct (length d.branches.tasks) q k y.path (count Y y.path) → ⊥) → ⊥
        go (inr out) = leaves d lt ix out
        go (inl c) = by_order (cases_order b c.branch)
          where
            by_order : (b ≡ c.branch) ⊎ ((b < c.branch) ⊎ (c.branch < b)) → ⊥
            by_order (inl e) = n (subst (λ i. InBranch q k i y.path (count Y y.path)) (sym e) c.is)
            by_order (inr (inl m)) = let pl = h.placed in not_back H y.path x.path (count Y y.path) (count X x.path) hs
                (pl.in_turn q k b c.branch d X Y x y hx hy m c.there ix c.is)
            by_order (inr (inr m)) = let pl = g.placed in not_back G x.path y.path (count X x.path) (count Y y.path) gs
                (pl.in_turn q k c.branch b d Y X y x hy hx m lt c.is ix)

    -- events of one spot keep their order
    kept_both : construct_spot X x ≡ construct_spot Y y → ⊥
    kept_both e = go (which hx hy)
      where
        go : Which x X y Y → ⊥
        go (same_one a b) = never_same g.alike x y X Y gs (ap (λ z. z.path) a) (λ i. count (b i) (a i).path)
        go (before u) = let pl = h.placed in not_back H y.path x.path (count Y y.path) (count X x.path) hs (pl.kept X Y x y u hy e)
        go (after u) = let pl = g.placed in not_back G x.path y.path (count X x.path) (count Y y.path) gs (pl.kept Y X y x u hx (sym e))

  no_swap : (n : ℕ) → NoSwap n
  no_swap zero G H X Y x y g h hx hy size gs hs = omega arith
  no_swap (suc n) G H X Y x y g h hx hy size gs hs = go (no_swap n) (home P D T l hx) (home P D T l hy)
    where
      size_back : length Y + length X < suc n
      size_back = omega arith

      -- the begin of a branch stands before what is below it
      begins : {G H X Y : Run} {x y : Event} {q : Path} {k b : ℕ} → Fine P R G → Fine P R H → (hx : Upto (x ∷ X) R) → (hy : Upto (y ∷ Y) R)
          → Sooner G x X y Y → Sooner H y Y x X → x.path ≡ q → count X x.path ≡ suc (k + b) → InBranch q k b y.path (count Y y.path) → ⊥
      begins {G} {H} {X} {Y} {x} {y} g h hx hy gs hs p num (its_begin r o) = never_same g.alike x y X Y gs (p ∙ sym r) (num ∙ sym o)
      begins {G} {H} {X} {Y} {x} {y} {q} {k} {b} g h hx hy gs hs p num (below xs r) =
          let w = begin_sooner P D q k b xs h.alike hy r in
          let v : Sooner H x X y Y = subst (λ i. Earlier H x.path i y.path (count Y y.path)) (sym num)
          (subst (λ z. Earlier H z (suc (k + b)) y.path (count Y y.path)) (sym p) w) in
          not_back H y.path x.path (count Y y.path) (count X x.path) hs v

      go : NoSwap n → Home R X x → Home R Y y → ⊥
      go rec a b = same_spot P D l hx hy (λ q k b d lt i m. same_branch n rec g h hx hy size gs hs d lt i m)
          (λ q k b d lt i m. same_branch n rec h g hy hx size_back hs gs d lt i m) (λ q k b d lt p m i. begins g h hx hy gs hs p m i)
          (λ q k b d lt p m i. begins h g hy hx hs gs p m i) a b (λ e. kept_both n rec g h hx hy size gs hs e)

  -- an order of events by their tasks and numbers
  in_both : (G H : Run) → Fine P R G → Fine P R H → Keeps (Earlier G) H
  in_both G H g h = record { each = each }
    where
      each : (p q : Path) (i j : ℕ) → i < count H p → j < count H q → Earlier G p i q j → Earlier H p i q j
      each p q i j a b w =
          by (numbered R p i (subst (λ es. i < length es) (h.alike.same p) a)) (numbered R q j (subst (λ es. j < length es) (h.alike.same q) b))
        where
          by : (x : Event) × (X : Run) × Upto (x ∷ X) R × (x.path ≡ p) × (count X p ≡ i) → (y : Event) × (Y : Run) × Upto (y ∷ Y) R × (y.path ≡ q)
              × (count Y q ≡ j) → Earlier H p i q j
          by x y = ⊎_elim (λ v. down H v) (λ v. absurd (no_swap (suc (length x.1 + length y.1)) G H x.1 y.1 x.0 y.0 g h x.2 y.2 (omega arith) up v))
              (either h.alike x.2 y.2 (never_same g.alike x.0 y.0 x.1 y.1 up))
            where
              up : Sooner G x.0 x.1 y.0 y.1
              up = subst (λ r. Earlier G r (count x.1 r) y.0.path (count y.1 y.0.path)) (sym x.3)
                  (subst (λ m. Earlier G p m y.0.path (count y.1 y.0.path)) (sym x.4)
                  (subst (λ r. Earlier G p i r (count y.1 r)) (sym y.3) (subst (λ m. Earlier G p i q m) (sym y.4) w)))

              down : (S : Run) → Sooner S x.0 x.1 y.0 y.1 → Earlier S p i q j
              down S v =
                  let v1 = subst (λ r. Earlier S r (count x.1 r) y.0.path (count y.1 y.0.path)) x.3 v in
                  let v2 = subst (λ m. Earlier S p m y.0.path (count y.1 y.0.path)) x.4 v1 in
                  let v3 = subst (λ r. Earlier S p i r (count y.1 r)) y.3 v2 in
                  subst (λ m. Earlier S p i q m) y.4 v3

  compares : (G : Run) → Compares (Earlier G) G
  compares G = record { each = each }
    where
      each : (p q : Path) (i j : ℕ) → i < count G p → j < count G q → (p ≡ q → i ≡ j → ⊥) → Earlier G p i q j ⊎ Earlier G q j p i
      each p q i j a b n = by (numbered G p i a) (numbered G q j b)
        where
          by : (x : Event) × (X : Run) × Upto (x ∷ X) G × (x.path ≡ p) × (count X p ≡ i) → (y : Event) × (Y : Run) × Upto (y ∷ Y) G × (y.path ≡ q)
              × (count Y q ≡ j) → Earlier G p i q j ⊎ Earlier G q j p i
          by x y = go (which x.2 y.2)
            where
              go : Which x.0 x.1 y.0 y.1 → Earlier G p i q j ⊎ Earlier G q j p i
              go (same_one u v) = absurd (let pq : p ≡ q = sym x.3 ∙ ap (λ z. z.path) u ∙ y.3 in n pq (sym x.4 ∙ (λ z. count (v z) (pq z)) ∙ y.4))
              go (before h) = inl (record {
                before = y.1;
                event = y.0;
                stands = y.2;
                path = y.3;
                number = y.4;
                more = (let c = number_of p h x.3 in let d = x.4 in omega arith);
              })
              go (after h) = inr (record {
                before = x.1;
                event = x.0;
                stands = x.2;
                path = x.3;
                number = x.4;
                more = (let c = number_of q h y.3 in let d = y.4 in omega arith);
              })

  pub one_moved : (G H : Run) → Faithful P G → Faithful P H → ((p : Path) → mine G p ≡ mine R p) → ((p : Path) → mine H p ≡ mine R p) → AfterForks R G
      → AfterForks R H → G ≡ H
  one_moved G H lg lh m n i j =
      let g : Fine P R G = record { alike = record { faithful = lg; same = m }; placed = i } in
      let h : Fine P R H = record { alike = record { faithful = lh; same = n }; placed = j } in
      same_order (Earlier G) G H (λ p. m p ∙ sym (n p)) (compares G) (record { each = λ p q k l a b w. w }) (in_both G H g h)
