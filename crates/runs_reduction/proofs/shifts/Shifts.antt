-- Where an event is put, and what stands in the run that it is put into.
use Rattle.std.proofs.Common.{◌≡◌, ℕ, ◌≤◌, ◌⊎◌, inl, inr, ⊎_elim, true, false, true≢false, [], ◌∷◌, length, refl, sym, ap, ◌∙◌, subst, arith}
use Rattle.runs_theory.specs.Objects.{Path}
use Rattle.runs_theory.specs.Runs.{Event, Run, Upto, count, later, mine, now}
use Rattle.runs_reduction.specs.Insertion.{Earlier, Spot, near, put_after}
use Rattle.runs_theory.proofs.events.Upto.{upto_length, upto_tail, upto_split, upto_none, Which, which, same_one, before, after}
use Rattle.runs_theory.proofs.events.Mine.{path_cases, mine_same, mine_other, mine_step, mine_upto}
use Rattle.runs_reduction.proofs.shifts.Under.{Under}
use Rattle.runs_reduction.proofs.shifts.Insertion.{after_here, after_over, Bools, yes, no, bools}

module _ (s : Spot) (o : Path) (e : Event) (e_in : Under o e.path) (test : (x : Event) → Under o x.path → near s x ≡ true) where
  -- where an event of a list is put after another
  pub after_other : (G : Run) (q : Path) → (q ≡ e.path → ⊥) → mine (put_after s e G) q ≡ mine G q
  after_other [] q n = mine_other e [] q (λ k. n (sym k))
  after_other (x ∷ G) q n = go (after_other G q n) (bools (near s x))
    where
      go : mine (put_after s e G) q ≡ mine G q → Bools (near s x) → mine (put_after s e (x ∷ G)) q ≡ mine (x ∷ G) q
      go rec (yes t) = ap (λ r. mine r q) (after_here s e x G t) ∙ mine_other e (x ∷ G) q (λ k. n (sym k))
      go rec (no t) = ap (λ r. mine r q) (after_over s e x G t)
          ∙ ⊎_elim (λ h. mine_same x (put_after s e G) q h ∙ ap (λ l. x ∷ l) rec ∙ sym (mine_same x G q h))
          (λ h. mine_other x (put_after s e G) q h ∙ rec ∙ sym (mine_other x G q h)) (path_cases x.path q)

  after_more : (G : Run) (q : Path) → count G q ≤ count (put_after s e G) q
  after_more [] q = upto_length (mine_step e [] q)
  after_more (x ∷ G) q = go (after_more G q) (bools (near s x))
    where
      go : count G q ≤ count (put_after s e G) q → Bools (near s x) → count (x ∷ G) q ≤ count (put_after s e (x ∷ G)) q
      go rec (yes t) = subst (λ r. count (x ∷ G) q ≤ count r q) (sym (after_here s e x G t)) (upto_length (mine_step e (x ∷ G) q))
      go rec (no t) = subst (λ r. count (x ∷ G) q ≤ count r q) (sym (after_over s e x G t)) (⊎_elim same other (path_cases x.path q))
        where
          same : x.path ≡ q → count (x ∷ G) q ≤ count (x ∷ put_after s e G) q
          same k = let a = ap length (mine_same x G q k) in let b = ap length (mine_same x (put_after s e G) q k) in omega arith

          other : (x.path ≡ q → ⊥) → count (x ∷ G) q ≤ count (x ∷ put_after s e G) q
          other k = let a = ap length (mine_other x G q k) in let b = ap length (mine_other x (put_after s e G) q k) in omega arith

  pub record Shifted (y : Event) (Y H : Run) : Type 0 where
    pub before : Run
    pub stands : Upto (y ∷ before) H
    pub same : count before y.path ≡ count Y y.path
    pub more : (p : Path) → count Y p ≤ count before p

  not_its : (x : Event) → near s x ≡ false → x.path ≡ e.path → ⊥
  not_its x n k = true≢false (sym (test x (subst (λ r. Under o r) (sym k) e_in)) ∙ n)

  -- what stands in the list still stands there, with at least as much before it
  pub shifted : (G : Run) (y : Event) (Y : Run) → Upto (y ∷ Y) G → Shifted y Y (put_after s e G)
  shifted [] y Y h = absurd (upto_none h)
  shifted (x ∷ G) y Y h = go (shifted G y Y) (bools (near s x))
    where
      go : (Upto (y ∷ Y) G → Shifted y Y (put_after s e G)) → Bools (near s x) → Shifted y Y (put_after s e (x ∷ G))
      go rec (yes t) = record { before = Y; stands = subst (λ r. Upto (y ∷ Y) r) (sym (after_here s e x G t)) (later h); same = refl; more = λ p. omega arith }
      go rec (no t) = ⊎_elim here (λ d. (let m = rec d in record {
        before = m.before;
        stands = subst (λ r. Upto (y ∷ m.before) r) (sym (after_over s e x G t)) (later m.stands);
        same = m.same;
        more = m.more;
      })) (upto_split h)
        where
          here : (y ≡ x) × (Y ≡ G) → Shifted y Y (put_after s e (x ∷ G))
          here d = record {
            before = put_after s e G;
            stands = subst (λ r. Upto (y ∷ put_after s e G) r) (sym (after_over s e x G t))
                (subst (λ z. Upto (y ∷ put_after s e G) (z ∷ put_after s e G)) d.0 now);
            same = ap length (after_other G y.path (not_its y (ap (near s) d.0 ∙ t))) ∙ ap (λ r. count r y.path) (sym d.1);
            more = λ p. (let b = after_more G p in subst (λ r. count r p ≤ count (put_after s e G) p) (sym d.1) b);
          }

  -- where it is put
  pub record NewAt (G : Run) : Type 0 where
    pub top : Event
    pub rest : Run
    pub stands : Upto (top ∷ rest) G
    pub is_near : near s top ≡ true
    pub new : Upto (e ∷ top ∷ rest) (put_after s e G)
    pub full : (q : Path) → Under o q → mine (top ∷ rest) q ≡ mine G q
    pub has : (y : Event) (Y : Run) → Upto (y ∷ Y) G → near s y ≡ true → Upto (y ∷ Y) (top ∷ rest)
    pub others : (y : Event) (Y : Run) → Upto (y ∷ Y) G → Upto (y ∷ Y) (top ∷ rest)
        ⊎ ((Z : Run) × Upto (y ∷ Z) (put_after s e G) × (count Z y.path ≡ count Y y.path) × Upto (e ∷ top ∷ rest) Z)

  pub new_at : (G : Run) (w : Event) (W : Run) → Upto (w ∷ W) G → near s w ≡ true → NewAt G
  new_at [] w W h hu = absurd (upto_none h)
  new_at (x ∷ G) w W h hu = go (λ k. new_at G w W k hu) (bools (near s x))
    where
      go : (Upto (w ∷ W) G → NewAt G) → Bools (near s x) → NewAt (x ∷ G)
      go rec (yes t) = record {
        top = x;
        rest = G;
        stands = now;
        is_near = t;
        new = subst (λ r. Upto (e ∷ x ∷ G) r) (sym (after_here s e x G t)) now;
        full = λ q v. refl;
        has = λ y Y d m. d;
        others = λ y Y d. inl d;
      }
      go rec (no t) = over (rec (⊎_elim (λ d. absurd (true≢false (sym hu ∙ ap (near s) d.0 ∙ t))) (λ d. d) (upto_split h)))
        where
          over : NewAt G → NewAt (x ∷ G)
          over n = record {
            top = n.top;
            rest = n.rest;
            stands = later n.stands;
            is_near = n.is_near;
            new = subst (λ r. Upto (e ∷ n.top ∷ n.rest) r) (sym (after_over s e x G t)) (later n.new);
            full = λ q v. n.full q v ∙ sym (mine_other x G q (λ p. true≢false (sym (test x (subst (λ r. Under o r) (sym p) v)) ∙ t)));
            has = λ y Y d m. n.has y Y (⊎_elim (λ p. absurd (true≢false (sym m ∙ ap (near s) p.0 ∙ t))) (λ p. p) (upto_split d)) m;
            others = λ y Y d. ⊎_elim (λ p. inr (here y Y p)) (λ d1. there y Y (n.others y Y d1)) (upto_split d);
          }
            where
              here : (y : Event) (Y : Run) → (y ≡ x) × (Y ≡ G) → (Z : Run) × Upto (y ∷ Z) (put_after s e (x ∷ G)) × (count Z y.path ≡ count Y y.path)
                  × Upto (e ∷ n.top ∷ n.rest) Z
              here y Y d = (
                put_after s e G,
                subst (λ r. Upto (y ∷ put_after s e G) r) (sym (after_over s e x G t))
                    (subst (λ z. Upto (y ∷ put_after s e G) (z ∷ put_after s e G)) d.0 now),
                ap length (after_other G y.path (not_its y (ap (near s) d.0 ∙ t))) ∙ ap (λ r. count r y.path) (sym d.1),
                n.new,
              )

              there : (y : Event) (Y : Run) → Upto (y ∷ Y) (n.top ∷ n.rest)
                  ⊎ ((Z : Run) × Upto (y ∷ Z) (put_after s e G) × (count Z y.path ≡ count Y y.path) × Upto (e ∷ n.top ∷ n.rest) Z)
                  → Upto (y ∷ Y) (n.top ∷ n.rest) ⊎ ((Z : Run) × Upto (y ∷ Z) (put_after s e (x ∷ G)) × (count Z y.path ≡ count Y y.path)
                  × Upto (e ∷ n.top ∷ n.rest) Z)
              there y Y (inl d) = inl d
              there y Y (inr d) = inr (d.0, subst (λ r. Upto (y ∷ d.0) r) (sym (after_over s e x G t)) (later d.1), d.2, d.3)

-- of two events one is the earlier
pub not_back : (G : Run) (p q : Path) (k n : ℕ) → Earlier G p k q n → Earlier G q n p k → ⊥
not_back G p q k n y x = go (which x.stands y.stands)
  where
    go : Which x.event x.before y.event y.before → ⊥
    go (same_one a b) = let c = ap (λ r. count r p) b in let d = y.more in let i = x.number in absurd (omega arith)
    go (before h) = let c = upto_length (mine_upto q (upto_tail h)) in let d = x.more in let i = y.number in absurd (omega arith)
    go (after h) = let c = upto_length (mine_upto p (upto_tail h)) in let d = y.more in let i = x.number in absurd (omega arith)
