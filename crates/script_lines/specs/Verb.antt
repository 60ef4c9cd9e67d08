-- The words that a command begins with.
use Rattle.std.specs.Prelude.{ℕ, cond, List, codes, Option, Some, None}
use Rattle.std.specs.Str.{bytes_eq}
use Rattle.script_lines.specs.Word.{◌>>=◌, cut}
use Rattle.script_lines.specs.declared.verb.Verb.{Verb}
use Rattle.script_lines.specs.declared.verb.Verb.TheVariants.{Table, Append, Insert, Delete, DeleteWhere, Merge, Ask, Serve, Take, Recode, Open, Export, Query}

-- the verb that a word is; delete where is two words
abbrev pub verb_of : List ℕ → Option Verb
verb_of word =
    cond (bytes_eq word (codes "table")) (Some Table)
    (cond (bytes_eq word (codes "append")) (Some Append)
    (cond (bytes_eq word (codes "insert")) (Some Insert)
    (cond (bytes_eq word (codes "delete")) (Some Delete)
    (cond (bytes_eq word (codes "merge")) (Some Merge)
    (cond (bytes_eq word (codes "ask")) (Some Ask)
    (cond (bytes_eq word (codes "serve")) (Some Serve)
    (cond (bytes_eq word (codes "take")) (Some Take)
    (cond (bytes_eq word (codes "recode")) (Some Recode)
    (cond (bytes_eq word (codes "open")) (Some Open)
    (cond (bytes_eq word (codes "export")) (Some Export)
    (cond (bytes_eq word (codes "query")) (Some Query) None)))))))))))

-- what follows the word where and its space, at the head of a text
unfoldable pub after_where : List ℕ → Option (List ℕ)
after_where text = cut 32 text >>= (λ parts. cond (bytes_eq parts.0 (codes "where")) (Some parts.1) None)

-- a delete, or a delete where and what follows it
abbrev pub delete_or : List ℕ → Option (List ℕ) → Verb × List ℕ
delete_or text None = (Delete, text)
delete_or text (Some rest) = (DeleteWhere, rest)

-- a verb with the words that follow it, the first of which is a delete's where
unfoldable pub whole_verb : Verb → List ℕ → Verb × List ℕ
whole_verb Delete text = delete_or text (after_where text)
whole_verb verb text = (verb, text)

-- the verb that begins a line, and the words that follow it, each after a space
unfoldable pub leading : List ℕ → Option (Verb × List ℕ)
leading line = do
  parts ← cut 32 line
  verb ← verb_of parts.0
  Some (whole_verb verb parts.1)
