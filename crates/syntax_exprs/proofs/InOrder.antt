-- Parts that are read in order, one after another, and lists that a loop reads item by item.
use Rattle.std.proofs.Common.{◌≡◌, ◌≤◌, List, [], ◌∷◌, ◌++◌, Bool, true, false, cond, Option, Some, refl, ap}
use Rattle.lang_base.specs.Refused.{IfRefused}
use Rattle.lang_base.specs.declared.place.Place.{Place}
use Rattle.lang_base.specs.declared.refusal.Kind.{Kind}
use Rattle.lang_base.specs.declared.refusal.Stop.{Stop}
use Rattle.syntax_tokens.specs.declared.token.Symbol.{Symbol}
use Rattle.syntax_tokens.specs.declared.terminal.Placed.{Placed}
use Rattle.syntax_tokens.specs.declared.terminal.Terminal.{Terminal}
use Rattle.syntax_tokens.specs.declared.terminal.Terminal.TheVariants as terminal
use Rattle.syntax_grammar.specs.Taking.{Next}
use Rattle.syntax_grammar.specs.Expecting.{Part, Expected, one, part, choose, next_of, next_is}
use Rattle.syntax_grammar.specs.Words.{is_comma}
use Rattle.syntax_grammar.specs.Limits.{Counts, inside, outside, past, Within, nothing, begins, passes, Stops, in_part, Refuses}
use Rattle.syntax_exprs.proofs.Composed.{seq, stops_after, on_refused, read_part, refused_part, refused_first, refused_after}
use Rattle.syntax_exprs.proofs.Coming.{symbol_comes_not, next_comes}

-- a terminal that was read has come, and was not one too many
pub next_read : {c d : Counts} {test : Terminal → Bool} {a b : List Placed} → Within c (one test ∷ []) a d b → next_is test (next_of a) ≡ true
next_read (passes is fits w) = is

past_joined : (t : Terminal) (c : Counts) → (past t c).joined ≡ c.joined
past_joined (terminal.Symbol Symbol.OpenParen) c = refl
past_joined (terminal.Symbol Symbol.OpenBracket) c = refl
past_joined (terminal.Symbol Symbol.OpenBrace) c = refl
past_joined (terminal.Symbol Symbol.CloseParen) c = refl
past_joined (terminal.Symbol Symbol.CloseBracket) c = refl
past_joined (terminal.Symbol Symbol.CloseBrace) c = refl
past_joined _ c = refl

pub joined_read : {c d : Counts} {test : Terminal → Bool} {a b : List Placed} → Within c (one test ∷ []) a d b → d.joined ≡ c.joined
joined_read {c = c} (passes {next = next} is fits nothing) = past_joined next.terminal c

pub few_read : {c d : Counts} {test : Terminal → Bool} {a b : List Placed} → Within c (one test ∷ []) a d b → d.joined ≤ 32
few_read {c = c} (passes {next = next} is fits nothing) = rw (past_joined next.terminal c) fits.joined

-- one of two, by the next terminal
pub this_one : {b : Bool} (x y : List Expected) → b ≡ true → Some (cond b x y) ≡ Some x
this_one x y is = ap (λ b. Some (cond b x y)) is

pub that_one : {b : Bool} (x y : List Expected) → b ≡ false → Some (cond b x y) ≡ Some y
that_one x y is = ap (λ b. Some (cond b x y)) is

-- one list after another
pub both : {c d e : Counts} {xs ys : List Expected} {a b g : List Placed} → Within c xs a d b → Within d ys b e g → Within c (xs ++ ys) a e g
both nothing v = v
both (begins chosen inner w) v = begins chosen inner (both w v)
both (passes is fits w) v = passes is fits (both w v)

stops_after_list : {c d : Counts} {xs ys : List Expected} {a b here : List Placed} {k : Kind} → Within c xs a d b → Stops d ys b k here → Stops c (xs ++ ys) a k here
stops_after_list nothing s = s
stops_after_list (begins chosen inner w) s = Stops.after_part chosen inner (stops_after_list w s)
stops_after_list (passes is fits w) s = Stops.after_terminal is fits (stops_after_list w s)

pub stops_in_list : {c : Counts} {xs : List Expected} (ys : List Expected) {a here : List Placed} {k : Kind} → Stops c xs a k here → Stops c (xs ++ ys) a k here
stops_in_list ys (Stops.no_part none) = Stops.no_part none
stops_in_list ys (Stops.no_terminal none) = Stops.no_terminal none
stops_in_list ys (Stops.too_many is over) = Stops.too_many is over
stops_in_list ys (Stops.in_part chosen s) = Stops.in_part chosen s
stops_in_list ys (Stops.after_part chosen w s) = Stops.after_part chosen w (stops_in_list ys s)
stops_in_list ys (Stops.after_terminal is fits s) = Stops.after_terminal is fits (stops_in_list ys s)

pub refused_in_list : (c : Counts) (xs ys : List Expected) (a : List Placed) (end : Place) (stop : Stop) → IfRefused stop (Refuses c xs a end) → IfRefused stop (Refuses c (xs ++ ys) a end)
refused_in_list c xs ys a end stop r = on_refused end stop (λ k here s. stops_in_list ys s) r

pub refused_after_list : (c d : Counts) (xs ys : List Expected) (a b : List Placed) (end later : Place) (stop : Stop) →
    Within c xs a d b → later ≡ end → IfRefused stop (Refuses d ys b later) → IfRefused stop (Refuses c (xs ++ ys) a end)
refused_after_list c d xs ys a b end later stop w is r = on_refused end stop (λ k here s. stops_after_list w s) (rw is at r)

-- a part is read by the two, three or four that it begins with
pub read_one : (c d e : Counts) (n : Part) (x : Expected) (a b : List Placed) →
    choose n (next_of a) ≡ Some (x ∷ []) → Within (inside n (next_of a) c) (x ∷ []) a d b → e ≡ outside n c d → Within c (part n ∷ []) a e b
read_one c d e n x a b chosen w is = rw is (read_part _ _ n _ _ _ chosen w)

pub read_two : (c d e f : Counts) (n : Part) (x y : Expected) (a b g : List Placed) →
    choose n (next_of a) ≡ Some (x ∷ y ∷ []) → Within (inside n (next_of a) c) (x ∷ []) a d b → Within d (y ∷ []) b e g → f ≡ outside n c e → Within c (part n ∷ []) a f g
read_two c d e f n x y a b g chosen v w is = rw is (read_part _ _ n _ _ _ chosen (seq v w))

pub read_three : (c d e f h : Counts) (n : Part) (x y z : Expected) (a b g i : List Placed) →
    choose n (next_of a) ≡ Some (x ∷ y ∷ z ∷ []) → Within (inside n (next_of a) c) (x ∷ []) a d b → Within d (y ∷ []) b e g → Within e (z ∷ []) g f i → h ≡ outside n c f → Within c (part n ∷ []) a h i
read_three c d e f h n x y z a b g i chosen u v w is = rw is (read_part _ _ n _ _ _ chosen (seq u (seq v w)))

-- what stops within a part, at the first of what it begins with, or at a later one
pub refused_at_first : (c : Counts) (n : Part) (x : Expected) (xs : List Expected) (a : List Placed) (end : Place) (stop : Stop) →
    choose n (next_of a) ≡ Some (x ∷ xs) → IfRefused stop (Refuses (inside n (next_of a) c) (x ∷ []) a end) → IfRefused stop (Refuses c (part n ∷ []) a end)
refused_at_first c n x xs a end stop chosen r = refused_part c n _ a end stop chosen (refused_first _ x xs a end stop r)

-- what stops later, where the text ends as it did
pub refused_later : (c d : Counts) (x y : Expected) (ys : List Expected) (a b : List Placed) (end later : Place) (stop : Stop) →
    Within c (x ∷ []) a d b → later ≡ end → IfRefused stop (Refuses d (y ∷ ys) b later) → IfRefused stop (Refuses c (x ∷ y ∷ ys) a end)
refused_later c d x y ys a b end later stop w is r = refused_after c d x (y ∷ ys) a b end stop w (rw is at r)

pub refused_at_second : (c d : Counts) (n : Part) (x y : Expected) (ys : List Expected) (a b : List Placed) (end later : Place) (stop : Stop) →
    choose n (next_of a) ≡ Some (x ∷ y ∷ ys) → Within (inside n (next_of a) c) (x ∷ []) a d b → later ≡ end → IfRefused stop (Refuses d (y ∷ []) b later) →
    IfRefused stop (Refuses c (part n ∷ []) a end)
refused_at_second c d n x y ys a b end later stop chosen w is r =
    refused_part c n _ a end stop chosen (refused_later _ d x y ys a b end later stop w is (refused_first d y ys b later stop r))

pub refused_at_third : (c d e : Counts) (n : Part) (x y z : Expected) (ys : List Expected) (a b g : List Placed) (end first later : Place) (stop : Stop) →
    choose n (next_of a) ≡ Some (x ∷ y ∷ z ∷ ys) → Within (inside n (next_of a) c) (x ∷ []) a d b → first ≡ end → Within d (y ∷ []) b e g → later ≡ first →
    IfRefused stop (Refuses e (z ∷ []) g later) → IfRefused stop (Refuses c (part n ∷ []) a end)
refused_at_third c d e n x y z ys a b g end first later stop chosen v is w same r =
    refused_part c n _ a end stop chosen
    (refused_later _ d x y (z ∷ ys) a b end first stop v is
    (refused_later d e y z ys b g first later stop w same (refused_first e z ys g later stop r)))

-- what is expected at a place leads to what is expected at a later one
pub record Onward (c : Counts) (xs : List Expected) (a : List Placed) (d : Counts) (ys : List Expected) (b : List Placed) : Type 0 where
  pub reads : (e : Counts) (after : List Placed) → Within d ys b e after → Within c xs a e after
  pub stops : (k : Kind) (here : List Placed) → Stops d ys b k here → Stops c xs a k here

-- a part that repeats itself goes on after one of its items
pub onward_more : {c d e : Counts} {xs : List Expected} (ys : List Expected) {a b g : List Placed} (m : Part) → Onward c xs a d (part m ∷ []) b →
    choose m (next_of b) ≡ Some (ys ++ part m ∷ []) → Within (inside m (next_of b) d) ys b e g → ((f : Counts) → outside m d f ≡ f) → Onward c xs a e (part m ∷ []) g
onward_more {d = d} ys m so_far chosen w leaves = record {
  reads = λ f after v. so_far.reads f after (rw (leaves f) at (read_part _ _ m _ _ _ chosen (both w v)));
  stops = λ k here s. so_far.stops k here (in_part chosen (stops_after_list w s));
}

pub onward_refused : (c d : Counts) (xs ys : List Expected) (a b : List Placed) (end later : Place) (stop : Stop) → Onward c xs a d ys b → later ≡ end →
    IfRefused stop (Refuses d ys b later) → IfRefused stop (Refuses c xs a end)
onward_refused c d xs ys a b end later stop so_far is r = on_refused end stop so_far.stops (rw is at r)

-- it may end where no more comes
pub onward_end : {c d e : Counts} {xs : List Expected} {a b g : List Placed} (m : Part) → Onward c xs a d (part m ∷ []) b → choose m (next_of b) ≡ Some [] →
    inside m (next_of b) d ≡ d → ((f : Counts) → outside m d f ≡ f) → e ≡ d → g ≡ b → Within c xs a e g
onward_end {d = d} {b = b} m so_far chosen enters leaves same at =
    rw (same, at) (so_far.reads d b (rw (leaves d) at (read_part d d m [] b b chosen (rw enters nothing))))

-- { "," X }
pub record IsMore (m : Part) (x : Expected) : Type 0 where
  pub chooses : (next : Option Placed) → choose m next ≡ Some (cond (next_is is_comma next) (one is_comma ∷ x ∷ part m ∷ []) [])
  pub enters : (next : Option Placed) (c : Counts) → inside m next c ≡ c
  pub leaves : (c d : Counts) → outside m c d ≡ d

pub listed_on : {c d e f : Counts} {xs : List Expected} {a b g i : List Placed} {m : Part} {x : Expected} → IsMore m x → Onward c xs a d (part m ∷ []) b →
    Within d (one is_comma ∷ []) b e g → Within e (x ∷ []) g f i → Onward c xs a f (part m ∷ []) i
listed_on {d = d} {b = b} {m = m} {x = x} is so_far comma item =
    onward_more (one is_comma ∷ x ∷ []) m so_far (rw (is.chooses (next_of b)) (this_one _ _ (next_read comma))) (rw (is.enters (next_of b) d) (seq comma item)) (is.leaves d)

pub listed_end : {c d e : Counts} {xs : List Expected} {a b g : List Placed} {m : Part} {x : Expected} → IsMore m x → Onward c xs a d (part m ∷ []) b →
    (Next (terminal.Symbol Symbol.Comma) b → ⊥) → e ≡ d → g ≡ b → Within c xs a e g
listed_end {d = d} {b = b} {m = m} is so_far none same at =
    onward_end m so_far (rw (is.chooses (next_of b)) (that_one _ _ (symbol_comes_not Symbol.Comma b none))) (is.enters (next_of b) d) (is.leaves d) same at

pub listed_at_comma : (c d : Counts) (xs : List Expected) (a b : List Placed) (end later : Place) (stop : Stop) (m : Part) (x : Expected) → IsMore m x →
    Onward c xs a d (part m ∷ []) b → later ≡ end → Next (terminal.Symbol Symbol.Comma) b → IfRefused stop (Refuses d (one is_comma ∷ []) b later) → IfRefused stop (Refuses c xs a end)
listed_at_comma c d xs a b end later stop m x is so_far same n r =
    onward_refused c d xs _ a b end later stop so_far same
    (refused_at_first d m (one is_comma) (x ∷ part m ∷ []) b later stop (rw (is.chooses (next_of b)) (this_one _ _ (next_comes Symbol.Comma b n))) (rw (is.enters (next_of b) d) r))

pub listed_at_item : (c d e : Counts) (xs : List Expected) (a b g : List Placed) (end first later : Place) (stop : Stop) (m : Part) (x : Expected) → IsMore m x →
    Onward c xs a d (part m ∷ []) b → first ≡ end → Within d (one is_comma ∷ []) b e g → later ≡ first → IfRefused stop (Refuses e (x ∷ []) g later) →
    IfRefused stop (Refuses c xs a end)
listed_at_item c d e xs a b g end first later stop m x is so_far same comma at r =
    onward_refused c d xs _ a b end first stop so_far same
    (refused_at_second d e m (one is_comma) x (part m ∷ []) b g first later stop (rw (is.chooses (next_of b)) (this_one _ _ (next_read comma))) (rw (is.enters (next_of b) d) comma) at r)

pub after_first : {c d : Counts} {x y : Expected} {a b : List Placed} → Within c (x ∷ []) a d b → Onward c (x ∷ y ∷ []) a d (y ∷ []) b
after_first w = record { reads = λ e after v. seq w v; stops = λ k here s. stops_after w s }
