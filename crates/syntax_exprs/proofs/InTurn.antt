-- What is read in turn, and where that is refused.
use Rattle.std.proofs.Common.{◌≡◌, ◌≤◌, ℕ, List, [], ◌∷◌, Bool}
use Rattle.lang_base.specs.declared.place.Place.{Place}
use Rattle.lang_base.specs.declared.refusal.Stop.{Stop}
use Rattle.syntax_tokens.specs.declared.terminal.Placed.{Placed}
use Rattle.syntax_tokens.specs.declared.terminal.Terminal.{Terminal}
use Rattle.syntax_grammar.specs.Expecting.{Expected, one}
use Rattle.syntax_grammar.specs.Limits.{Counts, Within}
use Rattle.syntax_exprs.proofs.InOrder.{Onward, few_read}
use Rattle.syntax_exprs.proofs.Composed.{Refused, seq, stops_first, stops_after, refused_first, refused_after, on_refused}

-- a refusal after what was read: the end of the text stays where it is
pub refused_later : (x : Expected) (ys : List Expected) {c d : Counts} {before between : List Placed} {end end_now : Place} (stop : Stop) →
    Within c (x ∷ []) before d between → end_now ≡ end → Refused d ys between end_now stop → Refused c (x ∷ ys) before end stop
refused_later x ys {c = c} {d = d} {before = before} {between = between} {end = end} stop w is r = refused_after c d x ys before between end stop w (rw is at r)

pub refused_second : (x y : Expected) (ys : List Expected) {c d : Counts} {before one_after : List Placed} {end end_one : Place} (stop : Stop) →
    Within c (x ∷ []) before d one_after → end_one ≡ end → Refused d (y ∷ []) one_after end_one stop → Refused c (x ∷ y ∷ ys) before end stop
refused_second x y ys {d = d} {one_after = one_after} {end_one = end_one} stop w is r = refused_later x (y ∷ ys) stop w is (refused_first d y ys one_after end_one stop r)

pub refused_third : (x y z : Expected) (ys : List Expected) {c d e : Counts} {before one_after two_after : List Placed} {end end_one end_two : Place} (stop : Stop) →
    Within c (x ∷ []) before d one_after → end_one ≡ end → Within d (y ∷ []) one_after e two_after → end_two ≡ end_one →
    Refused e (z ∷ []) two_after end_two stop → Refused c (x ∷ y ∷ z ∷ ys) before end stop
refused_third x y z ys stop w is v same r = refused_later x (y ∷ z ∷ ys) stop w is (refused_second y z ys stop v same r)

pub refused_fourth : (w x y z : Expected) (ys : List Expected) {c d e f : Counts} {before one_after two_after three_after : List Placed} {end end_one end_two end_three : Place} (stop : Stop) →
    Within c (w ∷ []) before d one_after → end_one ≡ end → Within d (x ∷ []) one_after e two_after → end_two ≡ end_one → Within e (y ∷ []) two_after f three_after → end_three ≡ end_two →
    Refused f (z ∷ []) three_after end_three stop → Refused c (w ∷ x ∷ y ∷ z ∷ ys) before end stop
refused_fourth w x y z ys stop read is others same more equal r = refused_later w (x ∷ y ∷ z ∷ ys) stop read is (refused_third x y z ys stop others same more equal r)

pub refused_fifth : (v w x y z : Expected) (ys : List Expected) {c d e f g : Counts} {before one_after two_after three_after four_after : List Placed}
    {end end_one end_two end_three end_four : Place} (stop : Stop) →
    Within c (v ∷ []) before d one_after → end_one ≡ end → Within d (w ∷ []) one_after e two_after → end_two ≡ end_one → Within e (x ∷ []) two_after f three_after → end_three ≡ end_two →
    Within f (y ∷ []) three_after g four_after → end_four ≡ end_three → Refused g (z ∷ []) four_after end_four stop → Refused c (v ∷ w ∷ x ∷ y ∷ z ∷ ys) before end stop
refused_fifth v w x y z ys stop read is others same more equal most alike r = refused_later v (w ∷ x ∷ y ∷ z ∷ ys) stop read is (refused_fourth w x y z ys stop others same more equal most alike r)

-- what is expected is read in turn
pub read_two : {x y : Expected} {c d e : Counts} {a b g : List Placed} → Within c (x ∷ []) a d b → Within d (y ∷ []) b e g → Within c (x ∷ y ∷ []) a e g
read_two v w = seq v w

pub read_three : {x y z : Expected} {c d e f : Counts} {a b g h : List Placed} → Within c (x ∷ []) a d b → Within d (y ∷ []) b e g → Within e (z ∷ []) g f h → Within c (x ∷ y ∷ z ∷ []) a f h
read_three u v w = seq u (seq v w)

-- what is read after what was read so far
pub onward_step : {x y : Expected} {ys xs : List Expected} {c d e : Counts} {a b g : List Placed} → Onward c xs a d (x ∷ y ∷ ys) b → Within d (x ∷ []) b e g → Onward c xs a e (y ∷ ys) g
onward_step o w = record { reads = λ e after v. o.reads e after (seq w v); stops = λ k here s. o.stops k here (stops_after w s) }

pub onward_refused : {x : Expected} {xs ys : List Expected} {c d : Counts} {a b : List Placed} {end end_now : Place} (stop : Stop) →
    Onward c xs a d (x ∷ ys) b → end_now ≡ end → Refused d (x ∷ []) b end_now stop → Refused c xs a end stop
onward_refused {ys = ys} stop o is r = on_refused _ stop (λ k here s. o.stops k here (stops_first ys s)) (rw is at r)

pub onward_reads : {c d e : Counts} {xs ys : List Expected} {a b g : List Placed} → Onward c xs a d ys b → Within d ys b e g → Within c xs a e g
onward_reads {e = e} {g = g} o w = o.reads e g w

pub onward_stops : {c d : Counts} {xs ys : List Expected} {a b : List Placed} {end end_now : Place} (stop : Stop) → Onward c xs a d ys b → end_now ≡ end → Refused d ys b end_now stop → Refused c xs a end stop
onward_stops stop o is r = on_refused _ stop o.stops (rw is at r)

-- what follows a terminal that was read is within the limits, with no more counted
pub few_still : {test : Terminal → Bool} {joined : ℕ} {c d : Counts} {a b : List Placed} → Within c (one test ∷ []) a d b → joined ≡ d.joined → joined ≤ 32
few_still w same = rw same (few_read w)
