-- The commands, their keys, and what a word gives to a key.
use Rattle.std.specs.Prelude.{ℕ, ℤ, pos, neg_ℤ, Bool, ◌&&◌, List, [], ◌∷◌, ◌++◌, length, drop, codes, Option, Some, None, if◌then◌else◌, nat_eq, nat_le, is_some}
use Rattle.std.specs.List.{find, filter_map, starts_with, list_any}
use Rattle.std.specs.Option.{option_map}
use Rattle.std.specs.Str.{bytes_eq}
use Rattle.std.specs.Str.Parse.{digits_value}
use Rattle.std.specs.Fmt.{decimal}
use Rattle.tool_words.specs.declared.command.Command.{Command}
use Rattle.tool_words.specs.declared.command.Command.TheVariants as command
use Rattle.tool_words.specs.declared.key.Key.{Key}
use Rattle.tool_words.specs.declared.key.Key.TheVariants as key
use Rattle.tool_words.specs.declared.key.Mode.{Mode}
use Rattle.tool_words.specs.declared.key.Mode.TheVariants as mode

-- the word that asks for a command
abbrev pub command_name : Command → List ℕ
command_name command.Check = codes "check"
command_name command.Run = codes "run"
command_name command.Elide = codes "elide"
command_name command.«List» = codes "list"
command_name command.Demo = codes "demo"
command_name command.Trace = codes "trace"
command_name command.Events = codes "events"
command_name command.Replay = codes "replay"
command_name command.Effects = codes "effects"
command_name command.Cost = codes "cost"

-- every command
abbrev pub commands : List Command
commands = command.Check ∷ command.Run ∷ command.Elide ∷ command.«List» ∷ command.Demo ∷ command.Trace ∷ command.Events ∷ command.Replay ∷ command.Effects ∷ command.Cost ∷ []

-- the command that a word asks for
abbrev pub command_named : List ℕ → Option Command
command_named word = find (λ c. bytes_eq (command_name c) word) commands

-- the name of a key
abbrev pub key_name : Key → List ℕ
key_name key.Workers = codes "workers"
key_name key.Steps = codes "steps"
key_name key.Cells = codes "cells"
key_name key.Arg = codes "arg"
key_name key.Number = codes "n"
key_name key.Mode = codes "mode"
key_name key.Seed = codes "seed"

-- the keys that may stand after a command
abbrev pub keys_of : Command → List Key
keys_of command.Check = []
keys_of command.Run = key.Workers ∷ key.Steps ∷ key.Cells ∷ key.Arg ∷ key.Mode ∷ key.Seed ∷ []
keys_of command.Elide = key.Steps ∷ key.Cells ∷ key.Arg ∷ []
keys_of command.«List» = []
keys_of command.Demo = key.Workers ∷ key.Steps ∷ key.Cells ∷ key.Number ∷ []
keys_of command.Trace = key.Workers ∷ key.Steps ∷ key.Cells ∷ key.Arg ∷ key.Seed ∷ []
keys_of command.Events = key.Workers ∷ key.Steps ∷ key.Cells ∷ key.Arg ∷ key.Seed ∷ []
keys_of command.Replay = []
keys_of command.Effects = []
keys_of command.Cost = key.Steps ∷ key.Cells ∷ key.Arg ∷ []

-- what stands after a prefix
abbrev pub following : List ℕ → List ℕ → Option (List ℕ)
following prefix word = if starts_with nat_eq word prefix then Some (drop (length prefix) word) else None

-- the value that a word gives to a key: what stands after the key's name and `=`
abbrev pub value_for : Key → List ℕ → Option (List ℕ)
value_for key word = following (key_name key ++ codes "=") word

-- all values that words give to a key
abbrev pub values_for : Key → List (List ℕ) → List (List ℕ)
values_for key words = filter_map (value_for key) words

-- whether a word sets a key of a command
abbrev pub sets_key_of : Command → List ℕ → Bool
sets_key_of command word = list_any (λ key. is_some (value_for key word)) (keys_of command)

-- the number whose decimal text this is, where it lies in a range
abbrev pub number_in : ℕ → ℕ → List ℕ → Option ℕ
number_in least most text =
    if bytes_eq (decimal (digits_value 10 text)) text && (nat_le least (digits_value 10 text) && nat_le (digits_value 10 text) most)
    then Some (digits_value 10 text) else None

-- the number of 32 bits whose decimal text this is: `-` stands before a value that isn't `0`
abbrev pub arg_of : List ℕ → Option ℤ
arg_of text = if starts_with nat_eq text (codes "-")
    then option_map (λ n. neg_ℤ (pos n)) (number_in 1 2147483648 (drop 1 text))
    else option_map pos (number_in 0 2147483647 text)

-- the mode of a seed
abbrev pub seeded_by : List ℕ → Option Mode
seeded_by text = option_map mode.Seeded (number_in 0 4294967295 text)

-- the mode of a name
abbrev pub mode_of : List ℕ → Option Mode
mode_of text = if bytes_eq (codes "steps") text then Some mode.Steps else if bytes_eq (codes "rounds") text then Some mode.Rounds else None
