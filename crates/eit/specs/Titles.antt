-- SCOPE 3.1: a title is none, no strings, or text.
use Rattle.std.specs.Prelude.{ℕ, List}
use Rattle.logic.specs.Choices.{if_eq}
use Rattle.bytes_at.specs.Fields.{byte_at}
use Rattle.eit.specs.declared.event.Title.{Title}
use Rattle.eit.specs.declared.event.Title.TheVariants.{None, NoStrings, Text}

-- length 0 is none; one zero byte is no strings
unfoldable pub title_of : List ℕ → ℕ → ℕ → Title
title_of s start n =
    if_eq n 0 None
    (if_eq n 1 (if_eq (byte_at s start) 0 NoStrings (Text (record { start = start; length = n })))
    (Text (record { start = start; length = n })))
