-- What a snippet's record stands for.
use Rattle.snippet.specs.Program.{Block}
use Rattle.snippet.specs.Layout.{block}
use Rattle.snippet.specs.Keeps.{Sizes, sizes}
use Rattle.snippet.specs.declared.body.Body.{Body}
use Rattle.snippet.specs.declared.snippet.Snippet.{Snippet}

-- The block that a body holds.
abbrev pub block_of : Body → Block
block_of b = block b.statements 0 b.len

abbrev pub program_of : Snippet → Block
program_of s = block_of s.body

abbrev pub sizes_of : Snippet → Sizes
sizes_of s = sizes s.body.limits
