mod StepLetters
