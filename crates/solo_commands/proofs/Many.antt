-- A command of three words or more is a program.
use Rattle.std.proofs.Common.{◌≡◌, ℕ, List, ◌∷◌, Some, refl, ap, ◌∙◌}
use Rattle.solo_commands.specs.Words.{without_blanks, comma_words, cut_at}
use Rattle.solo_commands.specs.Commands.{command_with, program_with}
use Rattle.solo_commands.proofs.Cutting.{words_more, HasWord, has_word}

pub many_words : (word text before behind second third : List ℕ) → cut_at 44 text ≡ Some (before, behind) → cut_at 44 behind ≡ Some (second, third)
    → program_with word (comma_words text) ≡ command_with word (comma_words text)
many_words word text before behind second third cut again =
    let last : HasWord third = has_word third in
    let are : comma_words text ≡ without_blanks before ∷ without_blanks second ∷ last.word ∷ last.others =
    words_more text before behind cut ∙ ap (λ others. without_blanks before ∷ others)
    (words_more behind second third again ∙ ap (λ others. without_blanks second ∷ others) last.are) in
    rw are refl
