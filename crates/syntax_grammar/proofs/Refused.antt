-- A text is read within the limits, or it is refused, and what that means for the programs that begin as it does.
use Rattle.std.proofs.Common.{◌≡◌, ◌∙◌, ◌⊎◌, inl, inr, ℕ, suc, length, arith, List, [], ◌∷◌, ◌++◌, append_assoc, refl, sym, ap, subst}
use Rattle.lang_base.specs.declared.place.Place.{Place}
use Rattle.lang_base.specs.declared.refusal.Kind.TheVariants as kind
use Rattle.lang_base.specs.declared.refusal.Refusal.{Refusal}
use Rattle.lang_base.specs.declared.refusal.Stop.{Stop}
use Rattle.lang_base.specs.Refused.{IfRefused}
use Rattle.syntax_tokens.specs.declared.token.Token.{Token}
use Rattle.syntax_tokens.specs.declared.terminal.Placed.{Placed}
use Rattle.syntax_tokens.specs.Says.{MeanAll, distinct_names}
use Rattle.syntax_tree.specs.declared.class.Class.{Class}
use Rattle.syntax_tree.specs.declared.class.Program.{Program}
use Rattle.syntax_grammar.specs.Classes.{DerivesProgram}
use Rattle.syntax_grammar.specs.Expecting.{Expected, part, Steps, stay, IsLost}
use Rattle.syntax_grammar.specs.Limits.{Within, Refuses}
use Rattle.syntax_grammar.proofs.Settled.{Settled, settled}
use Rattle.syntax_grammar.specs.Expecting.{Part as p}
use Rattle.syntax_grammar.specs.Program.{IsProgram, IsGrammarFault}
use Rattle.syntax_grammar.specs.Refusing.{at_start, IsWithin, IsRefusedIn, IsSyntaxFault, CanGoOn}
use Rattle.syntax_grammar.specs.Taking.{place_of}
use Rattle.syntax_grammar.specs.Viable.{HasSyntaxFault}
use Rattle.syntax_grammar.proofs.expected.Expected.{alike}
use Rattle.syntax_grammar.proofs.Decided.{fault_at}
use Rattle.syntax_grammar.proofs.once.OnceText.{terminals_once}
use Rattle.syntax_grammar.proofs.Readings.{Ended, whole, halted, ended, whole_text, Cause, lost, over, Stopped, stopped_steps, within_steps, once_stopped, read_or_stopped, passed_on}
use Rattle.syntax_grammar.proofs.Viability.{read_program, viable}

pub refused_once : (list : List Placed) (end : Place) (left right : Refusal) → IsRefusedIn list end left → IsRefusedIn list end right → left ≡ right
refused_once list end left right l r =
    let m = once_stopped l.stops r.stops in
    let place : left.place ≡ right.place = l.place ∙ ap (λ here. place_of here end) m.1 ∙ sym r.place in
    ap (λ kind. record { kind = kind; place = left.place }) m.0 ∙ ap (λ at. record { kind = right.kind; place = at }) place

pub not_refused : (list : List Placed) (end : Place) (refusal : Refusal) → IsRefusedIn list end refusal → IsWithin list → ⊥
not_refused list end refusal r w = read_or_stopped w.1 r.stops

pub read_derives : {list : List Placed} → IsWithin list → (classes : List Class) × DerivesProgram list classes
read_derives w = read_program (within_steps [] w.1 stay)

syntax_of : {list here : List Placed} {end place : Place} → Stopped kind.Syntax (part p.program ∷ []) list here → place ≡ place_of here end → IsSyntaxFault list end place
syntax_of {list} {here} {end} {place} s is = by s.cause s.steps
  where
    by : {to : List Expected} → Cause kind.Syntax to here → Steps to here (part p.program ∷ []) list → IsSyntaxFault list end place
    by {to} (lost l) steps =
        let a = alike steps in
        let again = subst (λ (m : List Placed). Steps to here (part p.program ∷ []) m) a.is steps in
        record { read = a.read; here = here; fault = subst (λ (m : List Placed). HasSyntaxFault m a.read here) (sym a.is) (fault_at a.read here again l); is = is }

nest_of : (end : Place) {list here : List Placed} {place : Place} → Stopped kind.Nest (part p.program ∷ []) list here → place ≡ place_of here end → CanGoOn list place
nest_of end {list} {here} {place} s is = by s.cause s.steps is
  where
    by : {to : List Expected} {here : List Placed} → Cause kind.Nest to here → Steps to here (part p.program ∷ []) list → place ≡ place_of here end → CanGoOn list place
    by (over {others = others} {next = next} {after = after} e) steps is =
        let a = alike steps in
        let on : Steps others after (part p.program ∷ []) list = passed_on e steps in
        let again : Steps others after (part p.program ∷ []) ((a.read ++ (next ∷ [])) ++ after) = subst (λ (m : List Placed). Steps others after (part p.program ∷ []) m) (a.is ∙ sym (append_assoc a.read (next ∷ []) after)) on in
        record { read = a.read; next = next; after = after; is = a.is; viable = viable (a.read ++ (next ∷ [])) after again; stands = is }

pub syntax_fault : (list : List Placed) (end place : Place) → IsRefusedIn list end (record { kind = kind.Syntax; place = place }) → IsSyntaxFault list end place
syntax_fault list end place r = syntax_of (stopped_steps [] r.stops) r.place

pub nest_fault : (list : List Placed) (end place : Place) → IsRefusedIn list end (record { kind = kind.Nest; place = place }) → CanGoOn list place
nest_fault list end place r = nest_of end (stopped_steps [] r.stops) r.place

pub reported_once : (bytes : List ℕ) (tokens : List Token) (end : Place) (left right : Refusal) → IsGrammarFault bytes tokens end left → IsGrammarFault bytes tokens end right → left ≡ right
reported_once bytes tokens end left right l r =
    let same : l.list ≡ r.list = terminals_once bytes tokens l.list r.list l.said r.said in
    refused_once r.list end left right (subst (λ (list : List Placed). IsRefusedIn list end left) same l.reported) r.reported

pub no_program : (bytes : List ℕ) (tokens : List Token) (end : Place) (refusal : Refusal) (program : Program) → IsGrammarFault bytes tokens end refusal → IsProgram bytes tokens program → ⊥
no_program bytes tokens end refusal program f d =
    let said : MeanAll (distinct_names bytes tokens) bytes tokens d.list = subst (λ (names : List (List ℕ)). MeanAll names bytes tokens d.list) d.names d.said in
    let same : d.list ≡ f.list = terminals_once bytes tokens d.list f.list said f.said in
    not_refused f.list end refusal f.reported (subst IsWithin same d.within)

pub read_or_refused : (list : List Placed) (end : Place) → (((classes : List Class) × DerivesProgram list classes) × IsWithin list) ⊎ ((refusal : Refusal) × IsRefusedIn list end refusal)
read_or_refused list end = by (ended at_start (part p.program ∷ []) list (settled_end s.ends) s.steps)
  where
    s : Settled (part p.program ∷ []) list
    s = settled (suc (length list)) (part p.program ∷ []) list (omega arith)

    settled_end : IsLost s.to s.left ⊎ ((s.to ≡ []) × (s.left ≡ [])) → IsLost s.to s.left ⊎ (s.to ≡ [])
    settled_end (inl l) = inl l
    settled_end (inr done) = inr done.0

    by : Ended at_start (part p.program ∷ []) list → (((classes : List Class) × DerivesProgram list classes) × IsWithin list) ⊎ ((refusal : Refusal) × IsRefusedIn list end refusal)
    by (whole {d = d} w) =
        let none = whole_text (within_steps [] w stay) in
        let all : IsWithin list = (d, subst (λ after. Within at_start (part p.program ∷ []) list d after) none w) in
        inl (read_derives all, all)
    by (halted {k = k} {here = here} r) = inr (record { kind = k; place = place_of here end }, record { here = here; stops = r; place = refl })

-- what the reading of a program refuses, the text is refused for
pub refused_in : (list : List Placed) (end : Place) (stop : Stop) → IfRefused stop (Refuses at_start (part p.program ∷ []) list end) → IfRefused stop (IsRefusedIn list end)
refused_in list end stop r = r
