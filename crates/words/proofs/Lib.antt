pub mod GivenLaws
pub mod NumberLaws
pub mod ParserLaws
pub mod WalkLaws
pub mod WorkedWords
