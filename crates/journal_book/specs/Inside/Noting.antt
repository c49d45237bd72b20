-- What is kept of an ask before its answer is there.
use Rattle.std.specs.Prelude.{◌≡◌, ⊤, Option, None, Some, Box}
use Rattle.std.specs.Global.{Global}
use Rattle.repl_asks.specs.Exchange.{AskData}
use Rattle.repl_asks.specs.Inside.View.{ask_view}
use Rattle.journal_book.specs.View.{symbol_ask}
use Rattle.journal_book.specs.declared.entry.ResolvedSymbol.{ResolvedSymbol}
use Rattle.journal_book.specs.declared.noting.AskNote.{AskNote}

-- where there is room for what a symbol names, the ask is to resolve it
abbrev pub IsNarrowFor : Option (Box ResolvedSymbol Global) → AskData → Type 0
IsNarrowFor None ask = ⊤
IsNarrowFor (Some narrow) ask = symbol_ask narrow.value ≡ ask

pub record IsNoteOf (note : AskNote) (ask : AskData) : Type 0 where
  pub wide : ask_view note.wide.value.ask ≡ ask
  pub narrow : IsNarrowFor note.narrow ask
