-- What a unary expression begins with.
use Rattle.std.proofs.Common.{◌≡◌, ◌⊎◌, List, [], ◌∷◌, false, ◌||◌, Some, inl, inr, refl, ap, subst}
use Rattle.lang_base.specs.declared.op.UnaryOp.{UnaryOp}
use Rattle.lang_base.specs.declared.op.UnaryOp.TheVariants as unary_op
use Rattle.lang_base.specs.Refused.{IfRefused}
use Rattle.lang_base.specs.declared.place.Place.{Place}
use Rattle.lang_base.specs.declared.refusal.Kind.{Kind}
use Rattle.lang_base.specs.declared.refusal.Stop.{Stop}
use Rattle.syntax_tokens.specs.declared.token.Symbol.{Symbol}
use Rattle.syntax_tokens.specs.declared.token.Keyword.{Keyword}
use Rattle.syntax_tokens.specs.declared.terminal.Placed.{Placed}
use Rattle.syntax_tokens.specs.declared.terminal.Terminal.{Terminal}
use Rattle.syntax_tokens.specs.declared.terminal.Terminal.TheVariants as terminal
use Rattle.syntax_tree.specs.declared.region.Named.{Named}
use Rattle.syntax_tree.specs.declared.region.RplTree.{RplTree}
use Rattle.syntax_tree.specs.declared.region.BaseTree.{BaseTree}
use Rattle.syntax_tree.specs.declared.region.BaseTree.TheVariants as base
use Rattle.syntax_grammar.specs.Words.{is_any, is_minus, is_name, is_new, is_not}
use Rattle.syntax_grammar.specs.Taking.{Next, TakesName, TakesNext}
use Rattle.syntax_grammar.specs.Types.{DerivesBase, int, boolean, class}
use Rattle.syntax_grammar.specs.Expressions.{unary_symbol}
use Rattle.syntax_grammar.specs.Expecting.{Part, one, part, base_parts, unary_parts, created_parts}
use Rattle.syntax_grammar.specs.Limits.{Counts, Fits, past, more, more_if, Within, Stops, in_part, Refuses}
use Rattle.syntax_exprs.specs.Counted.{Halts}
use Rattle.syntax_exprs.specs.Onward.{Onward}
use Rattle.syntax_exprs.proofs.Composed.{seq, stops_first, on_refused}
use Rattle.syntax_exprs.proofs.Coming.{comes_next, next_comes, symbol_comes_not}
use Rattle.syntax_exprs.proofs.Onwards.{over, step, steps, enter, refused_on, extend_stops, part_inside, part_stops}
use Rattle.syntax_exprs.proofs.parts.OperatorParts.{any_halts, joined_reads}

-- no operator comes
pub no_prefix_at_end : {here : List Placed} → here ≡ [] → (op : UnaryOp) → Next (terminal.Symbol (unary_symbol op)) here → ⊥
no_prefix_at_end e op n = let f = n.takes.takes.first in cc

pub no_prefix : {t : Terminal} {here : List Placed} → Next t here → ((op : UnaryOp) → t ≡ terminal.Symbol (unary_symbol op) → ⊥) →
    (op : UnaryOp) → Next (terminal.Symbol (unary_symbol op)) here → ⊥
no_prefix {t} m none op n =
    let f = n.takes.takes.first in
    let g = m.takes.takes.first in
    let wanted : Placed = record { terminal = terminal.Symbol (unary_symbol op); place = n.takes.place } in
    let next : Placed = record { terminal = t; place = m.takes.place } in
    let same : next ≡ wanted = cc in
    none op (ap (λ (p : Placed). p.terminal) same)

unary_enter : (op : UnaryOp) {c : Counts} {here : List Placed} → Next (terminal.Symbol (unary_symbol op)) here → Onward c (part Part.unary ∷ []) here (more c) (one is_any ∷ part Part.unary ∷ []) here
unary_enter unary_op.Negate n = rw (n.takes.takes.first) (enter Part.unary refl (λ d. refl))
unary_enter unary_op.Not n = rw (n.takes.takes.first) (enter Part.unary refl (λ d. refl))

prefix_plain : (op : UnaryOp) (c : Counts) → past (terminal.Symbol (unary_symbol op)) c ≡ c
prefix_plain unary_op.Negate c = refl
prefix_plain unary_op.Not c = refl

prefix_reads : (op : UnaryOp) (c d : Counts) {before after : List Placed} {place : Place} → Next (terminal.Symbol (unary_symbol op)) before → TakesNext before after place →
    Fits (more c) → d ≡ more c → Within (more c) (one is_any ∷ []) before d after
prefix_reads op c d n takes fits same = joined_reads is_any (unary_symbol op) c d n takes refl (prefix_plain op (more c)) fits same

pub prefix_read : (op : UnaryOp) (c d : Counts) {e : Counts} {before here after : List Placed} {place : Place} → Next (terminal.Symbol (unary_symbol op)) before → TakesNext before here place →
    Fits (more c) → d ≡ more c → Within d (part Part.unary ∷ []) here e after → Within c (part Part.unary ∷ []) before e after
prefix_read op c d n takes fits same w = (unary_enter op n).reads _ _ (seq (prefix_reads op c d n takes fits same) w)

pub prefix_halts : (op : UnaryOp) (c : Counts) (here : List Placed) (end : Place) (stop : Stop) → Next (terminal.Symbol (unary_symbol op)) here → IfRefused stop (Halts (more c) here end) →
    IfRefused stop (Refuses c (part Part.unary ∷ []) here end)
prefix_halts op c here end stop n h = refused_on _ stop (unary_enter op n) refl (any_halts (more c) here end stop h)

pub prefixed_refused : (op : UnaryOp) (c d : Counts) {before here : List Placed} {place : Place} (end last : Place) (stop : Stop) → Next (terminal.Symbol (unary_symbol op)) before → TakesNext before here place →
    Fits (more c) → d ≡ more c → last ≡ end → IfRefused stop (Refuses d (part Part.unary ∷ []) here last) → IfRefused stop (Refuses c (part Part.unary ∷ []) before end)
prefixed_refused op c d end last stop n takes fits same ends r = refused_on _ stop (over (unary_enter op n) (step _ (prefix_reads op c d n takes fits same))) ends r

-- a creation
new_enter : {c : Counts} {here : List Placed} → Next (terminal.Keyword Keyword.New) here → Onward c (part Part.unary ∷ []) here c (one is_new ∷ part Part.created ∷ []) here
new_enter n = rw (n.takes.takes.first) (enter Part.unary refl (λ d. refl))

pub new_read : {c d : Counts} {before after : List Placed} → Next (terminal.Keyword Keyword.New) before → Within c (one is_new ∷ part Part.created ∷ []) before d after → Within c (part Part.unary ∷ []) before d after
new_read n w = (new_enter n).reads _ _ w

pub new_refused : (c : Counts) (before : List Placed) (end : Place) (stop : Stop) → Next (terminal.Keyword Keyword.New) before → IfRefused stop (Refuses c (one is_new ∷ part Part.created ∷ []) before end) →
    IfRefused stop (Refuses c (part Part.unary ∷ []) before end)
new_refused c before end stop n r = on_refused end stop (λ k here s. (new_enter n).stops k here s) r

-- what stands in parentheses
paren_enter : {c : Counts} {here : List Placed} → Next (terminal.Symbol Symbol.OpenParen) here → Onward c (part Part.unary ∷ []) here c (part Part.inner ∷ part Part.selected ∷ []) here
paren_enter n = rw (n.takes.takes.first) (enter Part.unary refl (λ d. refl))

pub paren_read : {c d e : Counts} {before here after : List Placed} → Next (terminal.Symbol Symbol.OpenParen) before → Within c (part Part.inner ∷ []) before d here →
    Within d (part Part.selected ∷ []) here e after → Within c (part Part.unary ∷ []) before e after
paren_read n w v = (paren_enter n).reads _ _ (seq w v)

pub paren_refused : (c : Counts) (before : List Placed) (end : Place) (stop : Stop) → Next (terminal.Symbol Symbol.OpenParen) before → IfRefused stop (Refuses c (part Part.inner ∷ []) before end) →
    IfRefused stop (Refuses c (part Part.unary ∷ []) before end)
paren_refused c before end stop n r = refused_on _ stop (paren_enter n) refl r

pub paren_selected_refused : {c d : Counts} {before here : List Placed} (end : Place) {last : Place} (stop : Stop) → Next (terminal.Symbol Symbol.OpenParen) before → Within c (part Part.inner ∷ []) before d here →
    last ≡ end → IfRefused stop (Refuses d (part Part.selected ∷ []) here last) → IfRefused stop (Refuses c (part Part.unary ∷ []) before end)
paren_selected_refused end stop n w same r = refused_on _ stop (over (paren_enter n) (step _ w)) same r

-- and what begins with neither of these
plain_parts : (t : Terminal) → ((op : UnaryOp) → t ≡ terminal.Symbol (unary_symbol op) → ⊥) → (t ≡ terminal.Keyword Keyword.New → ⊥) → (t ≡ terminal.Symbol Symbol.OpenParen → ⊥) →
    (unary_parts t ≡ part Part.literal ∷ part Part.selected ∷ []) × ((is_minus t || is_not t) ≡ false)
plain_parts (terminal.Symbol Symbol.Minus) ops created paren = absurd (ops unary_op.Negate refl)
plain_parts (terminal.Symbol Symbol.Not) ops created paren = absurd (ops unary_op.Not refl)
plain_parts (terminal.Keyword Keyword.New) ops created paren = absurd (created refl)
plain_parts (terminal.Symbol Symbol.OpenParen) ops created paren = absurd (paren refl)
plain_parts _ ops created paren = (refl, refl)

literal_enter : (c : Counts) (here : List Placed) → ((op : UnaryOp) → Next (terminal.Symbol (unary_symbol op)) here → ⊥) → (Next (terminal.Keyword Keyword.New) here → ⊥) →
    (Next (terminal.Symbol Symbol.OpenParen) here → ⊥) → Onward c (part Part.unary ∷ []) here c (part Part.literal ∷ part Part.selected ∷ []) here
literal_enter c [] ops created paren = enter Part.unary refl (λ d. refl)
literal_enter c (next ∷ after) ops created paren =
    let p = plain_parts next.terminal (λ op e. ops op (comes_next e)) (λ e. created (comes_next e)) (λ e. paren (comes_next e)) in
    subst (λ b. Onward c (part Part.unary ∷ []) (next ∷ after) (more_if b c) (part Part.literal ∷ part Part.selected ∷ []) (next ∷ after)) p.1 (enter Part.unary (ap Some p.0) (λ d. refl))

pub literal_read : {c d e : Counts} {before here after : List Placed} → ((op : UnaryOp) → Next (terminal.Symbol (unary_symbol op)) before → ⊥) → (Next (terminal.Keyword Keyword.New) before → ⊥) →
    (Next (terminal.Symbol Symbol.OpenParen) before → ⊥) → Within c (part Part.literal ∷ []) before d here → Within d (part Part.selected ∷ []) here e after → Within c (part Part.unary ∷ []) before e after
literal_read {c} {before = before} ops created paren w v = (literal_enter c before ops created paren).reads _ _ (seq w v)

pub literal_refused : (c : Counts) (before : List Placed) (end : Place) (stop : Stop) → ((op : UnaryOp) → Next (terminal.Symbol (unary_symbol op)) before → ⊥) → (Next (terminal.Keyword Keyword.New) before → ⊥) →
    (Next (terminal.Symbol Symbol.OpenParen) before → ⊥) → IfRefused stop (Refuses c (part Part.literal ∷ []) before end) → IfRefused stop (Refuses c (part Part.unary ∷ []) before end)
literal_refused c before end stop ops created paren r = refused_on _ stop (literal_enter c before ops created paren) refl r

pub literal_selected_refused : {c d : Counts} {before here : List Placed} (end : Place) {last : Place} (stop : Stop) → ((op : UnaryOp) → Next (terminal.Symbol (unary_symbol op)) before → ⊥) →
    (Next (terminal.Keyword Keyword.New) before → ⊥) → (Next (terminal.Symbol Symbol.OpenParen) before → ⊥) → Within c (part Part.literal ∷ []) before d here → last ≡ end →
    IfRefused stop (Refuses d (part Part.selected ∷ []) here last) → IfRefused stop (Refuses c (part Part.unary ∷ []) before end)
literal_selected_refused {c} {before = before} end stop ops created paren w same r = refused_on _ stop (over (literal_enter c before ops created paren) (step _ w)) same r

-- a class, after which actuals come, or an array
class_goes : {d e : Counts} {before one_after here : List Placed} {named : Named} → TakesName before one_after named → Within d (part Part.base ∷ []) before e here →
    Onward d (part Part.created ∷ []) before e (part Part.created_rest ∷ []) here
class_goes {d} {e} {before} {here = here} t w =
    let i = part_inside {xs = one is_name ∷ part Part.args_if ∷ []} w (rw (t.first) refl) in
    let v : Within d (one is_name ∷ part Part.args_if ∷ []) before e here = subst (λ f. Within d (one is_name ∷ part Part.args_if ∷ []) before f here) i.is i.within in
    over (enter Part.created (rw (t.first) refl) (λ f. refl)) (steps (part Part.created_rest ∷ []) v)

object_goes : {d e : Counts} {before here : List Placed} {named : Named} {paths : List RplTree} → DerivesBase before here (base.Class named paths) → Within d (part Part.base ∷ []) before e here →
    Next (terminal.Symbol Symbol.OpenParen) here → Onward d (part Part.created ∷ []) before e (part Part.actuals ∷ part Part.selected ∷ []) here
object_goes {here = here} (class t d) w n = over (class_goes t w) (enter Part.created_rest (rw (next_comes Symbol.OpenParen here n) refl) (λ f. refl))

array_goes : {d e : Counts} {before here : List Placed} {start : BaseTree} → DerivesBase before here start → Within d (part Part.base ∷ []) before e here →
    (Next (terminal.Symbol Symbol.OpenParen) here → ⊥) → Onward d (part Part.created ∷ []) before e (part Part.array ∷ []) here
array_goes (int t) w away = over (enter Part.created (rw (t.first) refl) (λ f. refl)) (step _ w)
array_goes (boolean t) w away = over (enter Part.created (rw (t.first) refl) (λ f. refl)) (step _ w)
array_goes {here = here} (class t d) w away = over (class_goes t w) (enter Part.created_rest (rw (symbol_comes_not Symbol.OpenParen here away) refl) (λ f. refl))

plain_goes : {d e : Counts} {before here : List Placed} {start : BaseTree} → DerivesBase before here start → Within d (part Part.base ∷ []) before e here →
    ((named : Named) (paths : List RplTree) → start ≡ base.Class named paths → ⊥) → Onward d (part Part.created ∷ []) before e (part Part.array ∷ []) here
plain_goes (int t) w none = over (enter Part.created (rw (t.first) refl) (λ f. refl)) (step _ w)
plain_goes (boolean t) w none = over (enter Part.created (rw (t.first) refl) (λ f. refl)) (step _ w)
plain_goes (class {named = named} {paths = paths} t d) w none = absurd (none named paths refl)

pub object_read : {c d e f g : Counts} {before at here one_after after : List Placed} {named : Named} {paths : List RplTree} → Within c (one is_new ∷ []) before d at →
    DerivesBase at here (base.Class named paths) → Within d (part Part.base ∷ []) at e here → Next (terminal.Symbol Symbol.OpenParen) here →
    Within e (part Part.actuals ∷ []) here f one_after → Within f (part Part.selected ∷ []) one_after g after → Within c (one is_new ∷ part Part.created ∷ []) before g after
object_read start b w n all v = seq start ((object_goes b w n).reads _ _ (seq all v))

pub object_refused : {c d e : Counts} {before at here : List Placed} {named : Named} {paths : List RplTree} (end : Place) {last : Place} (stop : Stop) → Within c (one is_new ∷ []) before d at →
    DerivesBase at here (base.Class named paths) → Within d (part Part.base ∷ []) at e here → Next (terminal.Symbol Symbol.OpenParen) here → last ≡ end →
    IfRefused stop (Refuses e (part Part.actuals ∷ []) here last) → IfRefused stop (Refuses c (one is_new ∷ part Part.created ∷ []) before end)
object_refused end stop start b w n same r = refused_on _ stop (over (step _ start) (object_goes b w n)) same r

pub object_selected_refused : {c d e f : Counts} {before at here one_after : List Placed} {named : Named} {paths : List RplTree} (end : Place) {last : Place} (stop : Stop) → Within c (one is_new ∷ []) before d at →
    DerivesBase at here (base.Class named paths) → Within d (part Part.base ∷ []) at e here → Next (terminal.Symbol Symbol.OpenParen) here →
    Within e (part Part.actuals ∷ []) here f one_after → last ≡ end →
    IfRefused stop (Refuses f (part Part.selected ∷ []) one_after last) → IfRefused stop (Refuses c (one is_new ∷ part Part.created ∷ []) before end)
object_selected_refused end stop start b w n all same r = refused_on _ stop (over (step _ start) (over (object_goes b w n) (step _ all))) same r

pub array_read : {c d e f : Counts} {before at here after : List Placed} {start : BaseTree} → Within c (one is_new ∷ []) before d at → DerivesBase at here start →
    Within d (part Part.base ∷ []) at e here → (Next (terminal.Symbol Symbol.OpenParen) here → ⊥) → Within e (part Part.array ∷ []) here f after →
    Within c (one is_new ∷ part Part.created ∷ []) before f after
array_read start b w away v = seq start ((array_goes b w away).reads _ _ v)

pub lengths_refused : {c d e : Counts} {before at here : List Placed} {start : BaseTree} (end : Place) {last : Place} (stop : Stop) → Within c (one is_new ∷ []) before d at → DerivesBase at here start →
    Within d (part Part.base ∷ []) at e here → (Next (terminal.Symbol Symbol.OpenParen) here → ⊥) → last ≡ end → IfRefused stop (Refuses e (part Part.array ∷ []) here last) →
    IfRefused stop (Refuses c (one is_new ∷ part Part.created ∷ []) before end)
lengths_refused end stop start b w away same r = refused_on _ stop (over (step _ start) (array_goes b w away)) same r

pub plain_array_read : {c d e f : Counts} {before at here after : List Placed} {start : BaseTree} → Within c (one is_new ∷ []) before d at → DerivesBase at here start →
    Within d (part Part.base ∷ []) at e here → ((named : Named) (paths : List RplTree) → start ≡ base.Class named paths → ⊥) → Within e (part Part.array ∷ []) here f after →
    Within c (one is_new ∷ part Part.created ∷ []) before f after
plain_array_read start b w none v = seq start ((plain_goes b w none).reads _ _ v)

pub plain_lengths_refused : {c d e : Counts} {before at here : List Placed} {start : BaseTree} (end : Place) {last : Place} (stop : Stop) → Within c (one is_new ∷ []) before d at → DerivesBase at here start →
    Within d (part Part.base ∷ []) at e here → ((named : Named) (paths : List RplTree) → start ≡ base.Class named paths → ⊥) → last ≡ end → IfRefused stop (Refuses e (part Part.array ∷ []) here last) →
    IfRefused stop (Refuses c (one is_new ∷ part Part.created ∷ []) before end)
plain_lengths_refused end stop start b w none same r = refused_on _ stop (over (step _ start) (plain_goes b w none)) same r

-- what is created begins as its base does
based : (t : Terminal) → (created_parts t ≡ part Part.base ∷ part Part.array ∷ []) ⊎
    ((created_parts t ≡ one is_name ∷ part Part.args_if ∷ part Part.created_rest ∷ []) × (base_parts t ≡ one is_name ∷ part Part.args_if ∷ []))
based (terminal.Keyword Keyword.Int) = inl refl
based (terminal.Keyword Keyword.Boolean) = inl refl
based _ = inr (refl, refl)

base_stops : {d : Counts} {before here : List Placed} {k : Kind} → Stops d (part Part.base ∷ []) before k here → Stops d (part Part.created ∷ []) before k here
base_stops {before = []} s = in_part refl (extend_stops (part Part.created_rest ∷ []) (part_stops {xs = one is_name ∷ part Part.args_if ∷ []} s refl))
base_stops {before = next ∷ after} s = elim (based next.terminal) [
  | inl e ↦ in_part (ap Some e) (stops_first (part Part.array ∷ []) s)
  | inr e ↦ in_part (ap Some e.0) (extend_stops (part Part.created_rest ∷ []) (part_stops {xs = one is_name ∷ part Part.args_if ∷ []} s (ap Some e.1)))
]

pub base_refused : {c d : Counts} {before at : List Placed} (end : Place) {last : Place} (stop : Stop) → Within c (one is_new ∷ []) before d at → last ≡ end →
    IfRefused stop (Refuses d (part Part.base ∷ []) at last) → IfRefused stop (Refuses c (one is_new ∷ part Part.created ∷ []) before end)
base_refused end {last} stop start same r = refused_on [] stop (step _ start) same (on_refused last stop (λ k here s. base_stops s) r)
