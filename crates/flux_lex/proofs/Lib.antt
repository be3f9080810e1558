mod ReadLaws
mod TextMoves
