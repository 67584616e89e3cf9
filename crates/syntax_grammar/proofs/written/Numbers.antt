-- The terminals of a text say numbers of 32 bits, and are no more than such numbers count.
use Rattle.std.proofs.Common.{◌≡◌, ◌∙◌, ◌≤◌, ℤ, FitsSigned, List, [], ◌∷◌, ◌++◌, length, refl, ap, sym, subst, append_assoc, arith}
use Rattle.std.specs.Int.{w32}
use Rattle.std.proofs.lemmas.List.{length-append}
use Rattle.lang_base.specs.declared.place.Place.{Place}
use Rattle.syntax_tokens.specs.declared.terminal.Placed.{Placed}
use Rattle.syntax_tokens.specs.declared.terminal.Terminal.{Terminal}
use Rattle.syntax_tokens.specs.declared.terminal.Terminal.TheVariants as terminal
use Rattle.syntax_grammar.specs.Taking.{Takes}

-- a number that a terminal says has 32 bits
abbrev pub SaysFitting : Terminal → Type 0
SaysFitting (terminal.Int n) = FitsSigned w32 n
SaysFitting (terminal.Name name) = Unit {0}
SaysFitting (terminal.Text text) = Unit {0}
SaysFitting (terminal.Symbol symbol) = Unit {0}
SaysFitting (terminal.Keyword keyword) = Unit {0}

abbrev pub AllSayFitting : List Placed → Type 0
AllSayFitting [] = Unit {0}
AllSayFitting (said ∷ list) = SaysFitting said.terminal × AllSayFitting list

pub record Small (list : List Placed) : Type 0 where
  pub numbers : AllSayFitting list
  pub few : length list ≤ 4294967295

-- the terminals before a part of the text are some, and those that are left after it
pub record Leaves (before after : List Placed) : Type 0 where
  pub front : List Placed
  pub whole : before ≡ front ++ after

pub takes : {wanted : Terminal} {before after : List Placed} {place : Place} → Takes wanted before after place → Leaves before after
takes {wanted} {place = place} t = record { front = record { terminal = wanted; place = place } ∷ []; whole = t.first }

pub here : {list : List Placed} → Leaves list list
here = record { front = []; whole = refl }

pub join : {before one after : List Placed} → Leaves before one → Leaves one after → Leaves before after
join {after = after} p q =
    record { front = p.front ++ q.front; whole = p.whole ∙ ap (λ rest. p.front ++ rest) q.whole ∙ sym (append_assoc p.front q.front after) }

after_front : (front after : List Placed) → AllSayFitting (front ++ after) → AllSayFitting after
after_front [] after all = all
after_front (said ∷ front) after all = after_front front after all.1

pub fewer : {before after : List Placed} → Leaves before after → length after ≤ length before
fewer {after = after} p = omega (arith, ap length p.whole, length-append p.front after)

pub still_small : {before after : List Placed} → Leaves before after → Small before → Small after
still_small {after = after} p small = record {
  numbers = after_front p.front after (subst AllSayFitting p.whole small.numbers);
  few = omega (arith, small.few, fewer p);
}

-- a part of the text has this property, where the terminals before it are small, and leaves terminals after it
pub record Fits (Is : Type 0) (before after : List Placed) : Type 0 where
  pub is : Small before → Is
  pub left : Leaves before after

pub number_taken : {n : ℤ} {before after : List Placed} {place : Place} → Takes (terminal.Int n) before after place → Fits (FitsSigned w32 n) before after
number_taken t = record { is = λ small. (subst AllSayFitting t.first small.numbers).0; left = takes t }

-- a part of which nothing is asked
pub plainly : {before after : List Placed} → Leaves before after → Fits (Unit {0}) before after
plainly p = record { is = λ small. tt; left = p }

pub following : {Is : Type 0} {before one after : List Placed} → Leaves before one → Fits Is one after → Fits Is before after
following p f = record { is = λ small. f.is (still_small p small); left = join p f.left }

pub before : {Is : Type 0} {before one after : List Placed} → Fits Is before one → Leaves one after → Fits Is before after
before f p = record { is = f.is; left = join f.left p }

pub both : {Is Are : Type 0} {before one after : List Placed} → Fits Is before one → Fits Are one after → Fits (Is × Are) before after
both f g = record { is = λ small. (f.is small, g.is (still_small f.left small)); left = join f.left g.left }

pub all_three : {Is Are So : Type 0} {before one two after : List Placed} → Fits Is before one → Fits Are one two → Fits So two after → Fits (Is × Are × So) before after
all_three f g h = record {
  is = λ small. (f.is small, g.is (still_small f.left small), h.is (still_small (join f.left g.left) small));
  left = join f.left (join g.left h.left);
}

pub changed : {Is So : Type 0} {before after : List Placed} → (Is → So) → Fits Is before after → Fits So before after
changed f d = record { is = λ small. f (d.is small); left = d.left }
