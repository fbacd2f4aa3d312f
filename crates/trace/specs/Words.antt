-- Events, words, behaviours, and what is observed of them.
use Rattle.std.specs.Prelude.{ℕ, List, [], ◌∷◌, Some, None, Option}
use Rattle.trace.specs.declared.event.Event.{Event}
use Rattle.trace.specs.declared.event.Event.TheVariants.{Load, Store, LoadStore, Fence, Get, Print}
use Rattle.trace.specs.declared.event.Access.{Access}
use Rattle.trace.specs.declared.event.Kind.{Kind}
use Rattle.trace.specs.declared.event.Kind.TheVariants as kinds

-- What a run does, in order.
abbrev pub Word : Type 0
Word = List Event

-- The registers' values, from register 0 up.
abbrev pub Registers : Type 0
Registers = List ℕ

abbrev pub access : Kind → ℕ → Access
access kind location = record { kind = kind; location = location }

-- A load or a store is an access; no other event is.
abbrev pub access_of : Event → Option Access
access_of (Load L x) = Some (access kinds.Load L)
access_of (Store L x) = Some (access kinds.Store L)
access_of (LoadStore L x y) = None
access_of Fence = None
access_of (Get x) = None
access_of (Print x) = None

-- One way in which a piece of program can go: from start registers, to end registers, with a word.
pub record Behaviour : Type 0 where
  pub start : Registers
  pub end : Registers
  pub word : Word

abbrev pub behaviour : Registers → Registers → Word → Behaviour
behaviour s e w = record { start = s; end = e; word = w }

-- A set of behaviours.
abbrev pub Behaviours : Type 1
Behaviours = Behaviour → Type 0

-- The gets and prints of a word, in order.
abbrev pub shown : Word → Word
shown [] = []
shown (Load L x ∷ w) = shown w
shown (Store L x ∷ w) = shown w
shown (LoadStore L x y ∷ w) = shown w
shown (Fence ∷ w) = shown w
shown (Get x ∷ w) = Get x ∷ shown w
shown (Print x ∷ w) = Print x ∷ shown w

-- What can be observed of a behaviour: its registers at both ends, and what it got and printed.
pub record Observation : Type 0 where
  pub start : Registers
  pub end : Registers
  pub shown : Word

abbrev pub observation : Behaviour → Observation
observation b = record { start = b.start; end = b.end; shown = shown b.word }
