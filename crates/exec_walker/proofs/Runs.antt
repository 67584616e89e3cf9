-- How a world runs a tree piece by piece.
use Rattle.std.proofs.Common.{◌≡◌, refl, ap, ◌∙◌, sym}
use Rattle.lang_meaning.specs.Values.{Value}
use Rattle.lang_meaning.specs.Actions.{Frame}
use Rattle.lang_meaning.specs.Core.{Result, Goes_on, Returns, Prog, Ret, Traps, Act, Makes, Again, Split, on, next_of, and_then, each_from, Out, Done, Stopped, Lost}
use Rattle.lang_meaning.specs.Core.{bind, World, loop, run}
use Rattle.lang_meaning.specs.Core.{Out as out}

pub bind_assoc : {N M V U T W : Type 0} (o : Out N M V W) (j : V → W → Out N M U W) (k : U → W → Out N M T W) →
    bind (bind o j) k ≡ bind o (λ v w. bind (j v w) k)
bind_assoc (Done v w) j k = refl
bind_assoc (out.Trapped t p w) j k = refl
bind_assoc (Stopped n a) j k = refl
bind_assoc (Lost w) j k = refl

pub bind_same : {N M V U W : Type 0} (o : Out N M V W) (j k : V → W → Out N M U W) → ((v : V) (w : W) → j v w ≡ k v w) → bind o j ≡ bind o k
bind_same (Done v w) j k e = e v w
bind_same (out.Trapped t p w) j k e = refl
bind_same (Stopped n a) j k e = refl
bind_same (Lost w) j k e = refl

bind_through : {N M V U T W : Type 0} (o : Out N M V W) (k : V → W → Out N M U W) (h : V → W → Out N M T W) (m : T → W → Out N M U W) →
    ((v : V) (w : W) → k v w ≡ bind (h v w) m) → bind o k ≡ bind (bind o h) m
bind_through o k h m e = bind_same o k (λ v w. bind (h v w) m) e ∙ sym (bind_assoc o h m)

pub run_on : {N M W : Type 0} (wd : World N M W) (p : Prog N M) (k : Result N M → Prog N M) (w : W) →
    run wd (on p k) w ≡ bind (run wd p w) (λ r v. run wd (k r) v)
run_on wd (Ret r) k w = refl
run_on wd (Traps t p) k w = refl
run_on wd (Act o j) k w = bind_through (wd.act o w) (λ x v. run wd (on (j x) k) v) (λ x v. run wd (j x) v) (λ f v. run wd (k f) v) (λ x v. run_on wd (j x) k v)
run_on wd (Makes j) k w = bind_through (wd.make w) (λ x v. run wd (on (j x) k) v) (λ x v. run wd (j x) v) (λ f v. run wd (k f) v) (λ x v. run_on wd (j x) k v)
run_on wd (Again t b f j) k w =
    bind_through (loop wd.tick (λ g v. run wd (t g) v) (λ g v. run wd (b g) v) (wd.ticks w) f w) (λ x v. run wd (on (j x) k) v) (λ x v. run wd (j x) v)
    (λ f v. run wd (k f) v) (λ x v. run_on wd (j x) k v)
run_on wd (Split nd ts bs j) k w =
    bind_through (wd.fork nd ts (each_from (λ i v. run wd (bs i) v) 0 ts) w) (λ x v. run wd (on (j x) k) v) (λ x v. run wd (j x) v) (λ f v. run wd (k f) v)
    (λ x v. run_on wd (j x) k v)

-- what follows where a stretch goes on; a return is handed through
abbrev pub proceeds : {N M W : Type 0} → (Value N → Frame N M → W → Out N M (Result N M) W) → Result N M → W → Out N M (Result N M) W
proceeds k (Goes_on v f) w = k v f w
proceeds k (Returns v) w = Done (Returns v) w

-- one stretch and then the next, in front of what follows
pub then_run : {N M W : Type 0} (wd : World N M W) (p : Prog N M) (j : Value N → Frame N M → Prog N M) (k : Value N → Frame N M → W → Out N M (Result N M) W) (w : W) →
    bind (run wd (and_then p j) w) (λ r u. proceeds k r u) ≡ bind (run wd p w) (λ r u. proceeds (λ v g x. bind (run wd (j v g) x) (λ s y. proceeds k s y)) r u)
then_run {N} {M} {W} wd p j k w =
    ap (λ o. bind o (λ r u. proceeds k r u)) (run_on wd p (next_of j) w)
    ∙ bind_assoc (run wd p w) (λ r v. run wd (next_of j r) v) (λ r u. proceeds k r u)
    ∙ bind_same (run wd p w) _ _ step
  where
    step : (r : Result N M) (u : W) → bind (run wd (next_of j r) u) (λ r u. proceeds k r u) ≡ proceeds (λ v g x. bind (run wd (j v g) x) (λ s y. proceeds k s y)) r u
    step (Goes_on v g) u = refl
    step (Returns v) u = refl

pub proceeds_same : {N M W : Type 0} (j k : Value N → Frame N M → W → Out N M (Result N M) W) → ((v : Value N) (f : Frame N M) (w : W) → j v f w ≡ k v f w) →
    (r : Result N M) (w : W) → proceeds j r w ≡ proceeds k r w
proceeds_same j k e (Goes_on v f) w = e v f w
proceeds_same j k e (Returns v) w = refl

-- after a stretch
pub following : {N M W : Type 0} (o : Out N M (Result N M) W) (j k : Value N → Frame N M → W → Out N M (Result N M) W) →
    ((v : Value N) (f : Frame N M) (w : W) → j v f w ≡ k v f w) → bind o (λ r u. proceeds j r u) ≡ bind o (λ r u. proceeds k r u)
following o j k e = bind_same o _ _ (proceeds_same j k e)
