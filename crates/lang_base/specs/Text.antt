-- The texts by which places, traps and refusals are reported.
use Rattle.std.specs.Prelude.{ℕ, List, ◌++◌, codes}
use Rattle.std.specs.Fmt.{decimal}
use Rattle.lang_base.specs.declared.place.Place.{Place}
use Rattle.lang_base.specs.declared.value.Trap.{Trap}
use Rattle.lang_base.specs.declared.value.Trap.TheVariants as trap
use Rattle.lang_base.specs.declared.refusal.Kind.{Kind}
use Rattle.lang_base.specs.declared.refusal.Kind.TheVariants as kind
use Rattle.lang_base.specs.declared.refusal.Refusal.{Refusal}

-- `line:col`
abbrev pub place_text : Place → List ℕ
place_text place = decimal place.line ++ codes ":" ++ decimal place.col

abbrev pub trap_name : Trap → List ℕ
trap_name trap.Divide = codes "divide"
trap_name trap.Null = codes "null"
trap_name trap.Index = codes "index"
trap_name trap.Size = codes "size"
trap_name trap.Stack = codes "stack"

abbrev pub kind_name : Kind → List ℕ
kind_name kind.TooLong = codes "too-long"
kind_name kind.Syntax = codes "syntax"
kind_name kind.Number = codes "number"
kind_name kind.Nest = codes "nest"
kind_name kind.Duplicate = codes "duplicate"
kind_name kind.Unknown = codes "unknown"
kind_name kind.Cycle = codes "cycle"
kind_name kind.Main = codes "main"
kind_name kind.«Type» = codes "type"
kind_name kind.RegionArgs = codes "region-args"
kind_name kind.Override = codes "override"
kind_name kind.Return = codes "return"
kind_name kind.Assign = codes "assign"
kind_name kind.PartialWrite = codes "partial-write"
kind_name kind.Constraint = codes "constraint"
kind_name kind.Summary = codes "summary"
kind_name kind.OverrideEffect = codes "override-effect"
kind_name kind.Interferes = codes "interferes"
kind_name kind.InterferesNd = codes "interferes-nd"
kind_name kind.AtomicBody = codes "atomic-body"
kind_name kind.LocalRegion = codes "local-region"
kind_name kind.Trace = codes "trace"
kind_name kind.Schedule = codes "schedule"

-- `line:col name`
abbrev pub refusal_text : Refusal → List ℕ
refusal_text refusal = place_text refusal.place ++ codes " " ++ kind_name refusal.kind
